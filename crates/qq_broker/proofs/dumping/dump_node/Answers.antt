use Rattle.std.proofs.Common.{inl, inr, subst, sym}
use Rattle.qq_cluster_run.proofs.Beginnings.{keeps-all}
use Rattle.qq_broker.specs.Serving.{IsYardEnding}
use Rattle.qq_broker.proofs.Dumped.{yard-ended}
use Rattle.qq_broker.proofs.dumping.dump_node.Goals as goal

pub returns-in-Err-clause-ends : goal.returns-in-Err-clause-ends
returns-in-Err-clause-ends g c =
    let before = g.Y.Yard.faults c.args.yard.now in
    let after = g.Y.Yard.faults c.disk.new.self in
    λ source. inl (record {
      ending = c.yard_ending.result;
      may = subst (IsYardEnding before after) (sym c.yard_ending.ensures)
          (yard-ended before after c.in-Err.fault c.in-Err.ensures.cause.cause);
      keeps = keeps-all source.left;
      closes = c.close.ensures.closes;
    })

pub returns-clause-ends : goal.returns-clause-ends
returns-clause-ends g c =
    let so = c.dump_disk.ensures.ends in λ source. inr (record {
      first = c.in-Ok.disk;
      given_is = record { asked = c.in-Ok.ensures.given; opened = c.in-Ok.ensures.opened; new = tt };
      last = c.dump_disk.new.disk;
      told = c.dump_disk.ensures.told;
      same = c.dump_disk.ensures.same;
      files = so.0;
      shown = so.1;
      keeps = keeps-all source.left;
      has = so.2;
    })
