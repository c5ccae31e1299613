use Rattle.std.proofs.Common.{◌≤◌, take}
use Rattle.qq_broker.proofs.DrillLoops.{PartsGo}
use Rattle.qq_broker.proofs.drilling.play_parts.Given as goal

-- the first parts were done
abbrev pub invariant-parts : goal.invariant-parts
invariant-parts g l = record {
  go :
      PartsGo g.Y.Disk.NodeDisk.facts l.setup (take l.part-index l.parts) l.fn.nodes l.fn.told l.fn.play
      l.nodes l.told l.play;
  later : g.Y.Yard.faults l.fn.yard ≤ g.Y.Yard.faults l.yard;
}
