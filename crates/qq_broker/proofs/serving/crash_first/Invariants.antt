use Rattle.std.proofs.Common.{◌≤◌}
use Rattle.qq_broker.specs.Lives.{Giving}
use Rattle.qq_broker.proofs.Crashes.{CrashedTo}
use Rattle.qq_broker.proofs.serving.crash_first.Given as goal

-- the first nodes were crashed, and the yard has failed no less often
abbrev pub invariant-nodes : goal.invariant-nodes
invariant-nodes g l = record {
  crashed :
      (given : Giving g.row.Y-Disk.Denot)
      → CrashedTo given g.Y.Disk.NodeDisk.facts l.image l.before l.fn.nodes l.nodes;
  later : g.Y.Yard.faults l.fn.yard ≤ g.Y.Yard.faults l.yard;
}
