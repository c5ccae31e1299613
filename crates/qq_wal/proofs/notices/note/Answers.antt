use Rattle.std.proofs.Common.{◌+◌, arith, ap, sym, subst, take, drop, ◌∙◌}
use Rattle.qq_base.specs.declared.ids.QueueId.{QueueId}
use Rattle.qq_wal.specs.Marks.{IsPlaceOf}
use Rattle.qq_wal.specs.Notices.{note_mark}
use Rattle.qq_wal.proofs.Noting.{change-before, change-behind}
use Rattle.qq_wal.proofs.Rising.{note-at_place}
use Rattle.qq_wal.proofs.notices.note.Goals as goal

pub place_of-place-requires : goal.place_of-place-requires
place_of-place-requires c = sym c.requires.rising ∙ c.if-not-rising.false

pub returns-clause-marks : goal.returns-clause-marks
returns-clause-marks c =
    c.note_at.ensures
    ∙ sym (note-at_place c.args.op.now c.args.marks.now c.place_of-place.result
    (sym c.requires.rising ∙ c.if-not-rising.false)
    (subst (λ (id : QueueId). IsPlaceOf id c.args.marks.now c.place_of-place.result) c.queue.ensures
    c.place_of-place.ensures.place))

pub returns-clause-before : goal.returns-clause-before
returns-clause-before c =
    let place = c.place_of-place.result in
    ap (take place) c.note_at.ensures ∙ change-before (note_mark c.args.op.now) place c.args.marks.now

pub returns-clause-behind : goal.returns-clause-behind
returns-clause-behind c =
    let place = c.place_of-place.result in
    ap (drop (place + 1)) c.note_at.ensures ∙ change-behind (note_mark c.args.op.now) place (place + 1) c.args.marks.now
    (omega arith)
