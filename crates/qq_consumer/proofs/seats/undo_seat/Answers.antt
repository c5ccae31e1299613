use Rattle.qq_consumer.proofs.GoingBack.{absent-track, undo-bases, undo-joined, undo-track}
use Rattle.qq_consumer.proofs.seats.undo_seat.Goals as goal

pub returns-in_default-clause-tracked : goal.returns-in_default-clause-tracked
returns-in_default-clause-tracked c touched each =
    absent-track c.args.id c.args.rows.now c.get_mut.follows.lender-at-none c.requires c.get_mut.follows.holds-at-none
    c.in_default.ensures.value touched each

pub returns-clause-bases : goal.returns-clause-bases
returns-clause-bases c =
    undo-bases c.args.id c.args.rows.now _ c.requires c.in-Some.seat.now c.undo.new.self c.in-Some.ensures.value
    c.undo.ensures.items c.undo.ensures.base (c.get_mut.follows.holds _)

pub returns-clause-joined : goal.returns-clause-joined
returns-clause-joined c =
    undo-joined c.args.id c.args.rows.now _ c.requires c.in-Some.seat.now c.undo.new.self c.in-Some.ensures.value
    c.undo.ensures.items c.undo.ensures.base (c.get_mut.follows.holds _)

pub returns-clause-tracked : goal.returns-clause-tracked
returns-clause-tracked c touched each =
    undo-track c.args.id c.args.rows.now _ c.requires c.in-Some.seat.now c.undo.new.self c.in-Some.ensures.value
    c.undo.ensures.items c.undo.ensures.base (c.get_mut.follows.holds _) touched each
