use Rattle.std.proofs.Common.{Some, sym, ◌∙◌}
use Rattle.qq_disk_pins.proofs.read.a_readable_disk_gives_what_was_promised.Goals as goal

pub returns-clause-lanes : goal.returns-clause-lanes
returns-clause-lanes c = λ queues noticed given d r.
    let found = c.queues_get_their_first_ops.ensures.each noticed given (Some r.lanes) r.recovers in (
      found.0,
      cc (r.read, found.1),
      λ id. let first = found.2 id in (first.count, first.least, first.most, sym first.is),
    )

pub returns-clause-refused : goal.returns-clause-refused
returns-clause-refused c = λ queues noticed given d file place r.
    (λ e. cc (sym r.read ∙ e), λ e. cc (sym r.read ∙ e))
