use Rattle.qq_node_log.proofs.Gathers.{Gathered}
use Rattle.qq_node_log.proofs.gathering.gather_all.Given as goal

-- with the rest all ops are gathered
abbrev pub invariant-ops : goal.invariant-ops
invariant-ops g l =
    Gathered g.D.NodeDisk.facts l.fn.ops.items l.op-iterator.rest.items l.fn.wal l.wal
