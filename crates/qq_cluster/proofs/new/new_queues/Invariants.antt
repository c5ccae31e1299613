use Rattle.std.proofs.Common.{take}
use Rattle.qq_cluster.specs.Setting.{AreQueuesFor}
use Rattle.qq_cluster.proofs.new.new_queues.Given as goal

-- those of the rows so far
abbrev pub invariant-rows : goal.invariant-rows
invariant-rows l = AreQueuesFor (take l.at l.rows) l.queues.items
