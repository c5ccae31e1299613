use Rattle.std.proofs.Common.{◌≡◌, Bool, ◌&&◌, sym, ap, ◌∙◌}
use Rattle.std.specs.Prelude.{nat_lt}
use Rattle.std.proofs.lemmas.Bool.{lt-ltb}
use Rattle.qq_model.specs.declared.TheConstants.{MOST_GIVEN}
use Rattle.qq_dead.specs.Letters.{Letters, DeadState, may_give, letters_of}
use Rattle.qq_dead.proofs.Places.{may_give-is}
use Rattle.qq_dead.proofs.dead.Dead.may_give.Goals as goal

pub returns-then-self-gt0 : goal.returns-then-self-gt0
returns-then-self-gt0 c =
    let s = c.self.inside in
    let d : Letters = letters_of s.rows.items s.counts.deads s.counts.given s.counts.attached in
    let seen : d ≡ c.args.self.now.letters = ap (λ (k : DeadState). k.letters) c.self.view_is in
    sym (ap (λ (b : Bool). b && nat_lt s.counts.under_way MOST_GIVEN) (lt-ltb 0 s.counts.attached c.if-self-gt0.true))
    ∙ may_give-is s.counts.under_way d c.self.invariant.0 ∙ ap may_give seen
