use Rattle.qq_inbox.proofs.Seatings.{looks}
use Rattle.qq_inbox.proofs.marks.Marks.seen.Goals as goal

pub load-requires : goal.load-requires
load-requires c = (c.requires.seat.0, c.requires.queue.1, looks _ _ _ _)
