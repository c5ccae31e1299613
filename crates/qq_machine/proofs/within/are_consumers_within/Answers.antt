use Rattle.std.proofs.Common.{◌+◌, Bool, ◌&&◌, drop, sym, ap, ◌∙◌, arith}
use Rattle.std.specs.List.{list_all}
use Rattle.std.proofs.lemmas.Bool.{and_left}
use Rattle.qq_machine.specs.Within.{is_one_within}
use Rattle.qq_machine.proofs.NumberEnds.{all-more}
use Rattle.qq_machine.proofs.within.are_consumers_within.Goals as goal

pub returns-then-not-within : goal.returns-then-not-within
returns-then-not-within c =
    let served = c.args.consumers.now.roster.served in
    sym (all-more is_one_within served c.consumers.place (omega (arith, c.len-place-end.ensures.len))
    ∙ and_left _ _ (sym c.is_within_at-within.ensures ∙ c.if-not-within.true))
    ∙ c.consumers.invariant

pub consumers-preserved : goal.consumers-preserved
consumers-preserved c =
    let served = c.args.consumers.now.roster.served in
    sym (all-more is_one_within served c.consumers.place (omega (arith, c.len-place-end.ensures.len))
    ∙ ap (λ (b : Bool). b && list_all is_one_within (drop (c.consumers.place + 1) served))
    (sym c.is_within_at-within.ensures ∙ c.if-not-within.false))
    ∙ c.consumers.invariant
