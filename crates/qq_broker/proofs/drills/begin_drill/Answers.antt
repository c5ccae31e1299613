use Rattle.std.proofs.Common.{None, inl}
use Rattle.qq_cluster_run.proofs.Beginnings.{keeps-all}
use Rattle.qq_broker.specs.Lives.{under}
use Rattle.qq_broker.specs.Nodes.{Meets}
use Rattle.qq_broker.proofs.DrillEnds.{no-room}
use Rattle.qq_broker.proofs.drills.begin_drill.Goals as goal

pub returns-in-Err-clause-ends : goal.returns-in-Err-clause-ends
returns-in-Err-clause-ends g c = λ source.
    (let disk = g.Y.Disk.NodeDisk in
    let yard = g.Y.Yard.faults c.args.yard.now in
    inl (record {
      ending = c.no_memory.result;
      may = no-room (Meets (under g.Y.Yard.is_given None) disk.facts yard yard) c.args.setup.now c.no_memory.result
          c.no_memory.ensures;
      keeps = keeps-all source.left;
      closes = c.close.ensures.closes;
    }))

pub returns-in-Err-new-clause-ends : goal.returns-in-Err-new-clause-ends
returns-in-Err-new-clause-ends g c = λ source.
    (let disk = g.Y.Disk.NodeDisk in
    let yard = g.Y.Yard.faults c.args.yard.now in
    inl (record {
      ending = c.no_memory-in-Err-new.result;
      may = no-room (Meets (under g.Y.Yard.is_given None) disk.facts yard yard) c.args.setup.now
          c.no_memory-in-Err-new.result c.no_memory-in-Err-new.ensures;
      keeps = keeps-all source.left;
      closes = c.close-in-Err-new.ensures.closes;
    }))
