use Rattle.std.proofs.Common.{◌≡◌, take, map}
use Rattle.qq_wal.specs.Notices.{new_mark}
use Rattle.qq_wal.proofs.marks.new_marks.Given as goal

-- the first queues have marks
abbrev pub invariant-queues : goal.invariant-queues
invariant-queues l = l.marks.items ≡ map (new_mark l.carries) (take l.queue-index l.queues)
