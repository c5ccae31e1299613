-- The first consumer that waits is the next one of the table.
use Rattle.std.proofs.Common.{◌≡◌, ◌⊎◌, ◌<◌, ℕ, true, false, List, [], ◌∷◌, Option, Some, None, map, length, arith, refl, sym, ap, ◌∙◌, inl, inr}
use Rattle.std.specs.Prelude.{nat_eq, nat_lt, slice_get}
use Rattle.std.specs.Option.{option_map, option_and_then}
use Rattle.std.proofs.lemmas.Bool.{cond-true, cond-false, lt-ltb, eqb-true}
use Rattle.qq_base.specs.declared.ids.ConsumerId.{ConsumerId}
use Rattle.qq_base.specs.Ids.{same_consumer}
use Rattle.qq_base.proofs.Lists.{In, In-map, find-in, AllByRecursion-in, AllByRecursion-map}
use Rattle.qq_entry.specs.declared.table.Standing.{Standing}
use Rattle.qq_model.specs.Choice.{is_lesser}
use Rattle.qq_model.proofs.Least.{nat_lt-order, least_by-is, none-least_by}
use Rattle.qq_model.proofs.Lists.{AllByRecursion-from_in}
use Rattle.qq_model.proofs.OneConsumer.{same_consumer-true, same_consumer-refl}
use Rattle.qq_parts.specs.Parts.{Served, AreTwo, AreApart}
use Rattle.qq_service.specs.Next.{servable_turn, next}
use Rattle.qq_consumer.specs.declared.rising.Numbered.{Numbered}
use Rattle.qq_consumer.specs.Roster.{is_one, one_of, standing_one}
use Rattle.qq_consumer.specs.Turns.{turn_of, waiting_turn, Waiting, waiter, IsIn, IsQueue}
use Rattle.qq_consumer.proofs.Queueing.{in-each}

-- each consumer is found by its id
pub found-in : (one : Served) (served : List Served) → AreApart served → In one served
    → one_of one.consumer.id served ≡ Some one
found-in one [] apart here = absurd here
found-in one (first ∷ served) apart (inl same) =
    cond-true (is_one one.consumer.id first) (Some first) (one_of one.consumer.id served)
    (ap (λ (o : Served). same_consumer o.consumer.id one.consumer.id) (sym same) ∙ same_consumer-refl one.consumer.id)
    ∙ ap (λ (o : Served). Some o) (sym same)
found-in one (first ∷ served) apart (inr later) =
    cond-false (is_one one.consumer.id first) (Some first) (one_of one.consumer.id served)
    (AllByRecursion-in (AreTwo first) one served apart.0 later).0
    ∙ found-in one served apart.1 later

own-turn : (one : Served) (served : List Served) → AreApart served → In one served
    → waiting_turn served one.consumer.id ≡ turn_of one
own-turn one served apart here = ap (option_and_then turn_of) (found-in one served apart here)

-- where nobody waits nobody may be served
nobody : (served : List Served) (last : ℕ) → AreApart served → IsQueue (waiting_turn served) last []
    → next false (map standing_one served) ≡ None
nobody served last apart queue =
    ap (option_map (λ (one : Standing). one.id)) (none-least_by nat_lt servable_turn (map standing_one served)
    (AllByRecursion-map (λ (one : Served). turn_of one ≡ None) (λ (s : Standing). servable_turn s ≡ None) standing_one
    served (λ one none. none)
    (AllByRecursion-from_in (λ (one : Served). turn_of one ≡ None) served
    (λ one here. by one here (turn_of one) refl))))
  where
    by : (one : Served) → In one served → (o : Option ℕ) → turn_of one ≡ o → o ≡ None
    by one here None is = refl
    by one here (Some n) is = absurd (queue.all one.consumer.id n (own-turn one served apart here ∙ is))

turn-found : (o : Option Served) (n : ℕ) → option_and_then turn_of o ≡ Some n
    → (one : Served) × (o ≡ Some one) × (turn_of one ≡ Some n)
turn-found None n is = absurd cc
turn-found (Some one) n is = (one, refl, is)

-- the first that waits is the next one
first-is : (served : List Served) (last : ℕ) (w : Numbered ConsumerId) (ws : Waiting) → AreApart served
    → IsQueue (waiting_turn served) last (w ∷ ws) → next false (map standing_one served) ≡ Some w.item
first-is served last w ws apart queue =
    let found = turn-found (one_of w.item served) w.number queue.among.0 in
    let one : Served = found.0 in
    let here = find-in (is_one w.item) served one found.1 in
    let id : one.consumer.id ≡ w.item = same_consumer-true one.consumer.id w.item here.1 in
    ap (option_map (λ (s : Standing). s.id))
    (least_by-is nat_lt servable_turn nat_lt-order (map standing_one served) (standing_one one) w.number
    (In-map standing_one one served here.0) found.2
    (AllByRecursion-map (λ (x : Served). After one x)
    (λ (s : Standing). (s ≡ standing_one one) ⊎
    (is_lesser nat_lt (servable_turn (standing_one one)) (servable_turn s) ≡ true))
    standing_one served (λ x after. after)
    (AllByRecursion-from_in (λ (x : Served). After one x) served
    (λ x there. by one found.1 found.2 id x there (turn_of x) refl))))
    ∙ ap (λ (i : ConsumerId). Some i) id
  where
    After : Served → Served → Type 0
    After one x = (standing_one x ≡ standing_one one) ⊎ (is_lesser nat_lt (turn_of one) (turn_of x) ≡ true)

    by : (one : Served) → one_of w.item served ≡ Some one → turn_of one ≡ Some w.number → one.consumer.id ≡ w.item
        → (x : Served) → In x served → (o : Option ℕ) → turn_of x ≡ o → After one x
    by one found turn id x there None is =
        inr (ap (is_lesser nat_lt (turn_of one)) is ∙ ap (λ (o : Option ℕ). is_lesser nat_lt o None) turn)
    by one found turn id x there (Some m) is =
        at (queue.all x.consumer.id m (own-turn x served apart there ∙ is))
      where
        at : IsIn (waiter m x.consumer.id) (w ∷ ws) → After one x
        at (inl same) =
            let own : x.consumer.id ≡ w.item = ap (λ (o : Numbered ConsumerId). o.item) same in
            let both : Some x ≡ Some one =
            sym (found-in x served apart there) ∙ ap (λ (i : ConsumerId). one_of i served) own ∙ found in
            let eq : x ≡ one = cc in
            inl (ap standing_one eq)
        at (inr later) =
            let less : w.number < m =
            in-each (λ (o : Numbered ConsumerId). w.number < o.number)
            (waiter m x.consumer.id) ws queue.order.0 later in
            inr (ap (is_lesser nat_lt (turn_of one)) is ∙ ap (λ (o : Option ℕ). is_lesser nat_lt o (Some m)) turn
            ∙ lt-ltb w.number m less)

pub next-is : (served : List Served) (last : ℕ) (ws : Waiting) → AreApart served → IsQueue (waiting_turn served) last ws
    → option_map (λ (w : Numbered ConsumerId). w.item) (slice_get ws 0) ≡ next false (map standing_one served)
next-is served last [] apart queue = sym (nobody served last apart queue)
next-is served last (w ∷ ws) apart queue = sym (first-is served last w ws apart queue)

pub empty-next : (served : List Served) → nat_eq (length served) 0 ≡ true → None ≡ next false (map standing_one served)
empty-next [] empty = refl
empty-next (one ∷ served) empty = absurd (omega (arith, eqb-true (length (one ∷ served)) 0 empty))
