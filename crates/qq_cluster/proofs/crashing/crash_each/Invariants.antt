use Rattle.std.proofs.Common.{◌≤◌}
use Rattle.qq_cluster.proofs.CrashedEach.{CrashedTo}
use Rattle.qq_cluster.proofs.crashing.crash_each.Given as goal

-- the first nodes were crashed, and the yard's count of faults didn't fall
abbrev pub invariant-nodes : goal.invariant-nodes
invariant-nodes g l =
    CrashedTo g.Y.Disk.NodeDisk.facts l.image l.at l.fn.nodes l.nodes
    × (g.Y.Yard.faults l.fn.yard ≤ g.Y.Yard.faults l.yard)
