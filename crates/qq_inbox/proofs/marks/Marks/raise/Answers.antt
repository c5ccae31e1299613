use Rattle.std.proofs.Common.{arith}
use Rattle.qq_inbox.proofs.Seatings.{raises}
use Rattle.qq_inbox.proofs.marks.Marks.raise.Goals as goal

pub fetch_max-requires : goal.fetch_max-requires
fetch_max-requires g c =
    let from_one = c.requires.queue.0 in
    let within = c.requires.queue.1 in
    (c.requires.seat.0, omega arith, raises _ _ _ _ _ c.requires.right (λ is. absurd (omega arith)))
