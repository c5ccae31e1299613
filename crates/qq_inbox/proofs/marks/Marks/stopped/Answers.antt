use Rattle.qq_inbox.proofs.Seatings.{looks}
use Rattle.qq_inbox.proofs.marks.Marks.stopped.Goals as goal

pub load-requires : goal.load-requires
load-requires c = (c.requires.0, c.requires.2, looks _ _ _ _)
