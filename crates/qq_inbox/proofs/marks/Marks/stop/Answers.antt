use Rattle.std.proofs.Common.{le_refl}
use Rattle.qq_inbox.proofs.Seatings.{raises}
use Rattle.qq_inbox.proofs.marks.Marks.stop.Goals as goal

pub fetch_max-requires : goal.fetch_max-requires
fetch_max-requires g c = (c.requires.seat.0, c.requires.seat.2, raises _ _ _ _ _ c.requires.right (λ _. le_refl 1))
