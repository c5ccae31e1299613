use Rattle.std.proofs.Common.{◌≡◌, List, ◌++◌}
use Rattle.std.specs.VecDeque.{deque_len}
use Rattle.qq_log.specs.declared.op.Op.{Op}
use Rattle.qq_inbox.specs.HandOver.{InOrder}
use Rattle.qq_inbox.specs.Threads.{HasOffered}
use Rattle.qq_inbox.proofs.relay.offer_all.Given as goal

-- what was offered and what is left are all ops
abbrev pub invariant-ops : goal.invariant-ops
invariant-ops g l =
    InOrder g.S.Start.queues g.S.Start.carries l.fn.ops.items
    × ((sent : List Op) × (sent ++ l.ops.items ≡ l.fn.ops.items) × HasOffered l.inbox l.pass sent)

-- an op fewer is left
abbrev pub decreases-ops : goal.decreases-ops
decreases-ops g l = deque_len l.ops
