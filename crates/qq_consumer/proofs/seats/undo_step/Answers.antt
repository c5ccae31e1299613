use Rattle.std.proofs.Common.{◌≡◌, sym, subst, ap}
use Rattle.qq_model.specs.declared.consumer.Consumer.{Consumer}
use Rattle.qq_consumer.specs.declared.step.Step.{Step}
use Rattle.qq_consumer.specs.Joined.{CanUndoStep, bases_of, base_one, base_id, seen, undo_step}
use Rattle.qq_consumer.proofs.GoingBack.{front-seen, back-seen, back-joined, back-track}
use Rattle.qq_consumer.proofs.seats.undo_step.Goals as goal

pub returns-in-Joined-clause-bases : goal.returns-in-Joined-clause-bases
returns-in-Joined-clause-bases c =
    subst (λ (s : Step). bases_of c.drop_last.new.rows.entries ≡ undo_step base_one s (bases_of c.args.rows.now.entries))
    (sym c.in-Joined.is)
    (front-seen base_one c.args.rows.now.entries c.drop_last.new.rows.entries c.drop_last.ensures.entries)

pub returns-in-Joined-clause-ids : goal.returns-in-Joined-clause-ids
returns-in-Joined-clause-ids c =
    subst (λ (s : Step). seen base_id c.drop_last.new.rows.entries ≡ undo_step base_id s
    (seen base_id c.args.rows.now.entries)) (sym c.in-Joined.is)
    (front-seen base_id c.args.rows.now.entries c.drop_last.new.rows.entries c.drop_last.ensures.entries)

pub returns-in-Left-clause-bases : goal.returns-in-Left-clause-bases
returns-in-Left-clause-bases c =
    let back = c.put_back.ensures.entries in
    subst (λ (s : Step). bases_of c.put_back.new.rows.entries ≡ undo_step base_one s (bases_of c.args.rows.now.entries))
    (sym c.in-Left.is)
    (back-seen c.in-Left.seat back.0 c.in-Left.place c.args.rows.now.entries c.put_back.new.rows.entries back.1 base_one
    back.1.base_same)

pub returns-in-Left-clause-ids : goal.returns-in-Left-clause-ids
returns-in-Left-clause-ids c =
    let back = c.put_back.ensures.entries in
    subst (λ (s : Step). seen base_id c.put_back.new.rows.entries ≡ undo_step base_id s
    (seen base_id c.args.rows.now.entries)) (sym c.in-Left.is)
    (back-seen c.in-Left.seat back.0 c.in-Left.place c.args.rows.now.entries c.put_back.new.rows.entries back.1 base_id
    (ap (λ (k : Consumer). k.id) back.1.base))

pub returns-in-Left-clause-joined : goal.returns-in-Left-clause-joined
returns-in-Left-clause-joined c =
    let back = c.put_back.ensures.entries in
    let can = subst (λ (s : Step). CanUndoStep s (seen base_id c.args.rows.now.entries)) c.in-Left.is c.requires.can in
    back-joined c.in-Left.seat back.0 c.in-Left.place c.args.rows.now.entries c.put_back.new.rows.entries back.1
    c.put_back.ensures.unique can.2 c.requires.joined

pub returns-in-Left-clause-tracked : goal.returns-in-Left-clause-tracked
returns-in-Left-clause-tracked c touched each =
    let back = c.put_back.ensures.entries in
    back-track c.in-Left.seat back.0 c.in-Left.place c.args.rows.now.entries c.put_back.new.rows.entries back.1 touched each
