-- The next consumer has free credit, and where there is none nobody has.
use Rattle.std.proofs.Common.{◌≡◌, ℕ, ◌<◌, Bool, true, false, not, List, Option, Some, None, refl, sym, ap, ◌∙◌, inl, inr, arith}
use Rattle.std.specs.Prelude.{nat_lt, find, Contains}
use Rattle.std.specs.Option.{is_some, option_and_then}
use Rattle.std.proofs.lemmas.Bool.{false≢true, and_parts, and_from, cases_eq, lt-ltb, ltb-true, not-true}
use Rattle.qq_model.specs.declared.place.Row.{Row}
use Rattle.qq_model.specs.declared.consumer.Consumer.{Consumer}
use Rattle.qq_model.specs.Choice.{free_credit, may_be_served, waiting_turn, servable_consumer, next_consumer}
use Rattle.qq_base.proofs.Lists.{AllByRecursion-in, find-in}
use Rattle.qq_model.proofs.Choices.{is_some-if}
use Rattle.qq_model.proofs.Least.{least_by-none, nat_lt-order}
use Rattle.qq_model.proofs.Lookups.{next_consumer-in}
use Rattle.qq_model.proofs.Soundness.{Contains-in, in_contains}

-- a consumer that isn't cancelled and may not be served has no credit
no-credit : (rows : List Row) (one : Consumer) → one.cancelled ≡ false → may_be_served rows one ≡ false
    → free_credit rows one ≡ 0
no-credit rows one going none = by (free_credit rows one) refl
  where
    by : (n : ℕ) → free_credit rows one ≡ n → n ≡ 0
    by n is = elim (cases_eq n 0) [
      | inl zero' ↦ zero'
      | inr some ↦
          let more : 0 < free_credit rows one = omega (arith, is, some) in
          absurd (false≢true (sym none ∙ and_from (not one.cancelled) (nat_lt 0 (free_credit rows one))
          (ap not going) (lt-ltb 0 (free_credit rows one) more)))
    ]

pub next-chosen : (single : Bool) (rows : List Row) (consumers : List Consumer) (one : Consumer)
    → next_consumer single rows consumers ≡ Some one
    → Contains consumers one × (one.cancelled ≡ false) × (0 < free_credit rows one)
next-chosen single rows consumers one next =
    let chosen = next_consumer-in single rows consumers one next in
    let parts = and_parts (not one.cancelled) (nat_lt 0 (free_credit rows one)) chosen.1 in (
      Contains-in one consumers chosen.0,
      not-true one.cancelled parts.0,
      ltb-true 0 (free_credit rows one) parts.1,
    )

pub next-nobody : (rows : List Row) (consumers : List Consumer) (one : Consumer)
    → next_consumer false rows consumers ≡ None → Contains consumers one → one.cancelled ≡ false
    → free_credit rows one ≡ 0
next-nobody rows consumers one none there going =
    let keyless : waiting_turn rows one ≡ None =
    AllByRecursion-in (λ (other : Consumer). waiting_turn rows other ≡ None) one consumers
    (least_by-none nat_lt (waiting_turn rows) nat_lt-order consumers none) (in_contains consumers one there) in
    no-credit rows one going (sym (is_some-if (may_be_served rows one) one.turn) ∙ ap is_some keyless)

pub next-active : (rows : List Row) (consumers : List Consumer) (one : Consumer)
    → next_consumer true rows consumers ≡ None → find (λ (other : Consumer). not other.cancelled) consumers ≡ Some one
    → free_credit rows one ≡ 0
next-active rows consumers one none first =
    no-credit rows one
    (not-true one.cancelled (find-in (λ (other : Consumer). not other.cancelled) consumers one first).1)
    (sym (is_some-if (may_be_served rows one) one)
    ∙ ap (λ (o : Option Consumer). is_some o)
    (ap (λ (o : Option Consumer). option_and_then (servable_consumer rows) o) (sym first) ∙ none))
