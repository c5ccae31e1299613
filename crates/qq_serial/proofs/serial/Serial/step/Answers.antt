use Rattle.std.proofs.Common.{refl, sym, ap, ◌∙◌}
use Rattle.qq_model.specs.State.{State, is_within_ends}
use Rattle.qq_model.specs.Step.{Step, step}
use Rattle.qq_serial.specs.declared.queue.Queue.{Queue}
use Rattle.qq_serial.specs.Views.{state_of}
use Rattle.qq_serial.proofs.serial.Serial.step.Goals as goal

pub returns-then-not-is_within_ends-clause-cause : goal.returns-then-not-is_within_ends-clause-cause
returns-then-not-is_within_ends-clause-cause c = (
  refl,
  ap (λ (s : State). is_within_ends (step s c.args.index c.args.entry.now).state) (sym c.self.view_is)
      ∙ ap (λ (made : Step). is_within_ends made.state) c.in-Ok.ensures.ok
      ∙ sym (c.is_within_ends.ensures c.step.new.store)
      ∙ c.if-not-is_within_ends.true,
)

pub invariant_of-self-in-Ok : goal.invariant_of-self-in-Ok
invariant_of-self-in-Ok c =
    ap (λ (q : Queue). is_within_ends (state_of c.step.new.store q)) c.replace.ensures.after
    ∙ sym (c.is_within_ends.ensures c.step.new.store) ∙ c.if-not-is_within_ends.false

pub returns-else-not-is_within_ends-clause-within : goal.returns-else-not-is_within_ends-clause-within
returns-else-not-is_within_ends-clause-within c =
    ap (λ (q : Queue). is_within_ends (state_of c.step.new.store q)) c.replace.ensures.after
    ∙ sym (c.is_within_ends.ensures c.step.new.store) ∙ c.if-not-is_within_ends.false
