use Rattle.std.proofs.Common.{ℕ, refl, ap, sym, ◌∙◌, subst}
use Rattle.qq_base.specs.declared.ids.Index.{Index}
use Rattle.qq_model.specs.Audit.{next_step}
use Rattle.qq_parts.specs.Parts.{Parts, IsWhole}
use Rattle.qq_parts.specs.Step.{PartsStep, parts_step, StepsFor}
use Rattle.qq_parts.proofs.Stepping.{steps}
use Rattle.qq_machine.specs.Within.{are_within}
use Rattle.qq_machine.specs.Views.{content_of, base_of}
use Rattle.qq_machine.proofs.Lows.{holds-on}
use Rattle.qq_machine.proofs.Committing.{commits, undoes}
use Rattle.qq_machine.proofs.NumberEnds.{next-stands, told-next, passed, spent_where}
use Rattle.qq_machine.proofs.machine.Machine.apply.Goals as goal

pub returns-in_default-clause-ok : goal.returns-in_default-clause-ok
returns-in_default-clause-ok c =
    ap (λ (m : Parts). parts_step m c.args.index c.args.entry.now) (sym c.self.view_is)
    ∙ commits c.self.inside.args _ c.args.index c.args.entry.now c.step_within.new.self.queue c.commit-effects.new.self.queue _ _ _ _
    c.in-Ok.ensures.ok c.commit-effects.ensures.content c.commit-effects.ensures.effects

pub returns-in-Err-clause-err : goal.returns-in-Err-clause-err
returns-in-Err-clause-err c =
    undoes c.self.inside.args c.self.inside.draft.queue c.step_within.new.self.queue c.undo.new.self.queue
    c.undo.ensures.content c.step_within.ensures.base c.self.invariant.0.content
    ∙ c.self.view_is

pub returns-in_default-clause-queue : goal.returns-in_default-clause-queue
returns-in_default-clause-queue c s sound stands =
    let whole : IsWhole c.args.self.now = subst IsWhole c.self.view_is (c.sizes.ensures c.self.inside.args) in
    let same =
    ap (λ (n : ℕ). let i : Index = record { 0 = n } in parts_step c.args.self.now i c.args.entry.now)
    (sym c.requires.next)
    ∙ ap (λ (m : Parts). parts_step m c.args.index c.args.entry.now) (sym c.self.view_is)
    ∙ commits c.self.inside.args _ c.args.index c.args.entry.now c.step_within.new.self.queue c.commit-effects.new.self.queue _ _ _ _
    c.in-Ok.ensures.ok c.commit-effects.ensures.content c.commit-effects.ensures.effects in
    subst (λ (made : PartsStep). StepsFor made (next_step s c.args.entry.now)) same
    (steps c.args.self.now s c.args.entry.now sound stands whole c.requires.range)

pub returns-in_default-clause-within : goal.returns-in_default-clause-within
returns-in_default-clause-within c s sound reached stands =
    let whole : IsWhole c.args.self.now = subst IsWhole c.self.view_is (c.sizes.ensures c.self.inside.args) in
    let made : StepsFor (parts_step c.args.self.now c.args.index c.args.entry.now) (next_step s c.args.entry.now) =
    next-stands c.args.self.now s c.args.index c.args.entry.now c.requires.next sound stands whole c.requires.range in
    told-next c.self.inside.args c.args.self.now s c.args.entry.now c.step_within.new.self.queue _ _ _ _ reached
    c.requires.range made
    (ap (λ (m : Parts). parts_step m c.args.index c.args.entry.now) (sym c.self.view_is) ∙ c.in-Ok.ensures.ok)
    c.in-Ok.ensures.told

pub returns-in-Err-clause-cause : goal.returns-in-Err-clause-cause
returns-in-Err-clause-cause c =
    spent_where c.in-Err.cause _ _
    (λ is s sound stands.
    let whole : IsWhole c.args.self.now = subst IsWhole c.self.view_is (c.sizes.ensures c.self.inside.args) in
    let made : StepsFor (parts_step c.args.self.now c.args.index c.args.entry.now) (next_step s c.args.entry.now) =
    next-stands c.args.self.now s c.args.index c.args.entry.now c.requires.next sound stands whole c.requires.range in
    passed _ (next_step s c.args.entry.now).state made.holds.stands
    (ap (λ (m : Parts). are_within (parts_step m c.args.index c.args.entry.now).parts) (sym c.self.view_is) ∙ is))
    c.in-Err.ensures.cause

pub invariant_of-self : goal.invariant_of-self
invariant_of-self c = (
  c.undo.ensures.committed,
  c.undo.ensures.none,
  holds-on c.self.inside.live.indices c.self.inside.live.indices (content_of c.self.inside.draft.queue)
      (content_of c.undo.new.self.queue) c.self.invariant.2 refl
      (c.undo.ensures.content ∙ c.step_within.ensures.base ∙ sym c.self.invariant.0.content),
)

pub invariant_of-self-in-Err-make_room : goal.invariant_of-self-in-Err-make_room
invariant_of-self-in-Err-make_room c = (
  c.undo-in-Err-make_room.ensures.committed,
  c.undo-in-Err-make_room.ensures.none,
  holds-on c.self.inside.live.indices c.make_room.new.live.indices (content_of c.self.inside.draft.queue)
      (content_of c.undo-in-Err-make_room.new.self.queue) c.self.invariant.2 c.make_room.ensures.same
      (c.undo-in-Err-make_room.ensures.content ∙ c.step_within.ensures.base ∙ sym c.self.invariant.0.content),
)

pub tell-requires-clause-base : goal.tell-requires-clause-base
tell-requires-clause-base c =
    holds-on c.self.inside.live.indices c.make_room.new.live.indices (content_of c.self.inside.draft.queue)
    (base_of c.step_within.new.self.queue) c.self.invariant.2 c.make_room.ensures.same
    (c.step_within.ensures.base ∙ sym c.self.invariant.0.content)

pub invariant_of-self-in-Ok : goal.invariant_of-self-in-Ok
invariant_of-self-in-Ok c = (
  c.commit-effects.ensures.committed,
  c.commit-effects.ensures.none,
  holds-on c.tell.new.live.indices c.tell.new.live.indices (content_of c.step_within.new.self.queue)
      (content_of c.commit-effects.new.self.queue) c.tell.ensures refl c.commit-effects.ensures.content,
)
