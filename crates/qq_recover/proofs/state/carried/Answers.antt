use Rattle.std.proofs.Common.{◌∙◌, Bool, cond, Option, Some, None, ap, sym}
use Rattle.qq_log.specs.Stable.{Stable}
use Rattle.qq_recover.specs.State.{state_with_carry}
use Rattle.qq_recover.proofs.States.{later-fits}
use Rattle.qq_recover.proofs.state.carried.Goals as goal

pub returns-then-is_restated_by : goal.returns-then-is_restated_by
returns-then-is_restated_by c =
    sym (ap (λ (o : Option Stable). state_with_carry o c.args.carry.now) c.in-Some.is
    ∙ later-fits c.args.carry.now c.requires.may c.in-Some.state
    ∙ ap (λ (t : Bool). cond t (Some c.in-Some.state) None)
    (sym c.is_restated_by.ensures ∙ c.if-is_restated_by.true))

pub returns-else-is_restated_by : goal.returns-else-is_restated_by
returns-else-is_restated_by c =
    sym (ap (λ (o : Option Stable). state_with_carry o c.args.carry.now) c.in-Some.is
    ∙ later-fits c.args.carry.now c.requires.may c.in-Some.state
    ∙ ap (λ (t : Bool). cond t (Some c.in-Some.state) None)
    (sym c.is_restated_by.ensures ∙ c.if-is_restated_by.false))
