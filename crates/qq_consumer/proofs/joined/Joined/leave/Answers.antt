use Rattle.std.proofs.Common.{◌∷◌, List, sym, ap, ◌∙◌, subst, arith}
use Rattle.std.specs.Prelude.{position}
use Rattle.std.specs.Map.{keys_of, lookup, remove_entry}
use Rattle.indexmap.specs.IndexMap.{spare}
use Rattle.qq_base.specs.Ids.{same_consumer}
use Rattle.qq_consumer.specs.declared.step.Step.{Step}
use Rattle.qq_consumer.specs.declared.step.Step.TheVariants as step
use Rattle.qq_consumer.specs.Roster.{remove_one}
use Rattle.qq_consumer.specs.Joined.{JoinedState, Entry, CanGoBack, ones_of, bases_of, base_one, undone}
use Rattle.qq_consumer.proofs.JoinedRows.{removed}
use Rattle.qq_consumer.proofs.GoingBack.{leaves-base, leaves-back}
use Rattle.qq_consumer.proofs.joined.Joined.leave.Goals as goal

pub returns-in_default-clause-served : goal.returns-in_default-clause-served
returns-in_default-clause-served c =
    ap ones_of (c.in_default.ensures.entries ∙ ap (remove_entry (same_consumer c.args.id)) c.make_room.ensures.entries)
    ∙ removed c.args.id c.self.inside.rows.entries c.self.invariant.joined.ids c.self.invariant.joined.unique
    ∙ ap (λ (j : JoinedState). remove_one c.args.id j.served) c.self.view_is

pub invariant_of-self-2 : goal.invariant_of-self-2
invariant_of-self-2 c =
    subst (λ (js : List Step). CanGoBack c.shift_remove_full.new.self.entries js c.self.inside.touched.items
    (spare c.shift_remove_full.new.self))
    (sym (c.push_front_reserved.ensures.items
    ∙ ap (λ (js : List Step). step.Left c.in-Some.place c.in-Some.seat ∷ js) c.make_room.ensures.steps))
    (leaves-back c.args.id c.self.inside.rows.entries c.shift_remove_full.new.self.entries c.in-Some.place c.in-Some.seat
    (c.in-Some.ensures.index
    ∙ ap (λ (es : List Entry). position (same_consumer c.args.id) (keys_of es)) c.make_room.ensures.entries)
    (c.in-Some.ensures.value ∙ ap (lookup (same_consumer c.args.id)) c.make_room.ensures.entries)
    (c.in-Some.ensures.entries ∙ ap (remove_entry (same_consumer c.args.id)) c.make_room.ensures.entries)
    c.self.inside.journal.items c.self.inside.touched.items _ _ c.in-Some.ensures.unique
    (omega (arith, c.in_ok-make_room.ensures.room, c.in-Some.ensures.room.0)) c.self.invariant)

pub returns-clause-served : goal.returns-clause-served
returns-clause-served c =
    ap ones_of (c.in-Some.ensures.entries ∙ ap (remove_entry (same_consumer c.args.id)) c.make_room.ensures.entries)
    ∙ removed c.args.id c.self.inside.rows.entries c.self.invariant.joined.ids c.self.invariant.joined.unique
    ∙ ap (λ (j : JoinedState). remove_one c.args.id j.served) c.self.view_is

pub returns-clause-base : goal.returns-clause-base
returns-clause-base c =
    ap (λ (js : List Step). undone base_one js (bases_of c.shift_remove_full.new.self.entries))
    (c.push_front_reserved.ensures.items
    ∙ ap (λ (js : List Step). step.Left c.in-Some.place c.in-Some.seat ∷ js) c.make_room.ensures.steps)
    ∙ leaves-base c.args.id c.self.inside.rows.entries c.shift_remove_full.new.self.entries c.in-Some.place c.in-Some.seat
    (c.in-Some.ensures.index
    ∙ ap (λ (es : List Entry). position (same_consumer c.args.id) (keys_of es)) c.make_room.ensures.entries)
    (c.in-Some.ensures.value ∙ ap (lookup (same_consumer c.args.id)) c.make_room.ensures.entries)
    (c.in-Some.ensures.entries ∙ ap (remove_entry (same_consumer c.args.id)) c.make_room.ensures.entries)
    c.self.inside.journal.items
    ∙ ap (λ (j : JoinedState). j.base) c.self.view_is
