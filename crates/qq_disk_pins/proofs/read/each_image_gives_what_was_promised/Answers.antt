use Rattle.std.proofs.Common.{sym}
use Rattle.qq_wal_chain.specs.Laws.{lanes_read}
use Rattle.qq_disk_pins.proofs.read.each_image_gives_what_was_promised.Goals as goal

pub returns : goal.returns
returns c = λ queues bound noticed given d i recovers image honest.
    let found =
    c.queues_get_their_first_ops.ensures.each noticed given (lanes_read queues bound i) (recovers i image honest) in (
      found.0,
      found.1,
      λ id. let first = found.2 id in (first.count, first.least, first.most, sym first.is),
    )
