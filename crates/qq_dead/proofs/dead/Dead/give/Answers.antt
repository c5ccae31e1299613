use Rattle.std.proofs.Common.{◌≡◌, ◌<◌, Some, sym, ap, ◌∙◌, arith}
use Rattle.qq_model.specs.declared.TheConstants.{MOST_GIVEN}
use Rattle.qq_dead.specs.Letters.{Letters, DeadState, next_offer, letters_of}
use Rattle.qq_dead.proofs.Places.{kept-give, offer-few}
use Rattle.qq_dead.proofs.dead.Dead.give.Goals as goal

pub overflow_add-self : goal.overflow_add-self
overflow_add-self c =
    let s = c.self.inside in
    let d : Letters = letters_of s.rows.items s.counts.deads s.counts.given s.counts.attached in
    let seen : d ≡ c.args.self.now.letters = ap (λ (k : DeadState). k.letters) c.self.view_is in
    let found : next_offer d ≡ Some c.in-Some.row.now = ap next_offer seen ∙ sym c.in-Some.ensures in
    let few : s.counts.under_way < MOST_GIVEN =
    offer-few s.counts.under_way d c.in-Some.row.now c.self.invariant.0 found in
    omega arith

pub invariant_of-self : goal.invariant_of-self
invariant_of-self c =
    let s = c.self.inside in
    let d : Letters = letters_of s.rows.items s.counts.deads s.counts.given s.counts.attached in
    let seen : d ≡ c.args.self.now.letters = ap (λ (k : DeadState). k.letters) c.self.view_is in
    let found : next_offer d ≡ Some c.in-Some.row.now = ap next_offer seen ∙ sym c.in-Some.ensures in
    (kept-give s.counts.under_way d c.in-Some.row.now c.self.invariant.0 found, c.self.invariant.1)
