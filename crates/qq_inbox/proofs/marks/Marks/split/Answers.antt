use Rattle.qq_inbox.proofs.Seatings.{splits}
use Rattle.qq_inbox.proofs.marks.Marks.split.Goals as goal

pub split_seat-requires : goal.split_seat-requires
split_seat-requires c = (c.requires.0, c.requires.2, splits _ _ _)
