use Rattle.std.proofs.Common.{arith}
use Rattle.qq_inbox.specs.Marks.{reading}
use Rattle.qq_inbox.proofs.Knowledge.{joined_told}
use Rattle.qq_inbox.proofs.Seatings.{answer_below}
use Rattle.qq_inbox.proofs.watch.wait_for_op.Goals as goal

pub returns-clause-synced : goal.returns-clause-synced
returns-clause-synced g c =
    let raising = c.join-seat.ensures.first in
    let looking = c.join-seat.ensures.second in
    let all = raising.2 in
    answer_below (reading c.join-seat.result.0) (reading c.join-seat.result.1.0) (reading c.join.new.seat)
    c.args.queue.0 _ _ c.join.ensures.reading raising.1 c.join.ensures.answers looking.0.1 (omega arith)

pub returns-clause-told : goal.returns-clause-told
returns-clause-told g c =
    joined_told (reading c.join-seat.result.0) (reading c.join-seat.result.1.0) (reading c.join.new.seat)
    c.args.queue.0 _ c.join.ensures.reading c.join-seat.ensures.second.0.1
