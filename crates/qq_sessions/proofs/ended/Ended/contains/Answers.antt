use Rattle.std.proofs.Common.{◌≡◌, ℕ, List, Bool, sym, ap, ◌∙◌, subst}
use Rattle.std.specs.Prelude.{nat_eq}
use Rattle.std.specs.List.{list_any}
use Rattle.std.proofs.lemmas.Bool.{ne_eqb}
use Rattle.qq_sessions.specs.Rising.{Numbers, Rises, is_at, number_key}
use Rattle.qq_sessions.proofs.Rising.{any-at_place}
use Rattle.qq_sessions.proofs.ended.Ended.contains.Goals as goal

pub returns : goal.returns
returns c =
    let xs : List ℕ = c.as_slice-numbers.result.now in
    let own : xs ≡ c.self.inside.numbers.items = c.as_slice-numbers.ensures.value in
    let seen : c.self.inside.numbers.items ≡ c.args.self.now.numbers = ap (λ (n : Numbers). n.numbers) c.self.view_is in
    let test : ℕ → Bool = λ n. nat_eq n c.args.number in
    c.is_at.ensures ∙ ap (λ (n : ℕ). is_at number_key c.args.number n xs) c.place_of.ensures.place
    ∙ sym (any-at_place number_key c.args.number test xs (λ x other. ne_eqb x c.args.number other)
    (subst (Rises number_key) (sym own) c.self.invariant))
    ∙ ap (list_any test) (own ∙ seen)
