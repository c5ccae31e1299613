use Rattle.std.proofs.Common.{◌≡◌, drop}
use Rattle.qq_cluster_run.specs.Setup.{row_at}
use Rattle.qq_cluster_run.proofs.checking.row_at.Given as goal

-- it is among the rest
abbrev pub invariant-loop-row : goal.invariant-loop-row
invariant-loop-row l = row_at (drop l.row-index l.rows) l.queue.0 ≡ row_at l.rows l.queue.0
