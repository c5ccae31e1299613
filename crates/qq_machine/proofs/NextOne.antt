-- The next consumer by the standings of a table is the next one of its rows, and may be served.
use Rattle.std.proofs.Common.{◌≡◌, Bool, true, false, List, [], ◌∷◌, Option, Some, None, map, nat_lt, refl, sym, ap, ◌∙◌, subst, inl, inr, if◌then◌else◌}
use Rattle.std.specs.Prelude.{find, is_some}
use Rattle.std.specs.Option.{option_map, option_and_then}
use Rattle.std.proofs.lemmas.Bool.{cond-true, cond-false}
use Rattle.qq_base.specs.declared.ids.ConsumerId.{ConsumerId}
use Rattle.qq_base.specs.Ids.{same_consumer}
use Rattle.qq_base.proofs.Lists.{In, AllByRecursion-in}
use Rattle.qq_entry.specs.declared.table.Standing.{Standing}
use Rattle.qq_model.proofs.Least.{least_by-in}
use Rattle.qq_model.proofs.OneConsumer.{same_consumer-refl}
use Rattle.qq_parts.specs.Parts.{Served, AreTwo, AreApart}
use Rattle.qq_parts.specs.Turns.{may_serve, servable_one, is_current, active_one}
use Rattle.qq_parts.specs.Follows.{servable_turn, longest_one, next_one}
use Rattle.qq_parts.specs.Commands.{one_of}
use Rattle.qq_parts.proofs.Choosing.{next-in}
use Rattle.qq_service.specs.Next.{next, servable_by, is_active}
use Rattle.qq_service.specs.Next.{servable_turn as standing_turn}
use Rattle.qq_consumer.specs.Roster.{standing_one}
use Rattle.qq_consumer.specs.Turns.{waiting_turn, turn_of}
use Rattle.qq_machine.specs.Views.{IsNextOne, IsNextIn}
use Rattle.qq_machine.proofs.Lists.{find-over, least-over}

abbrev id_of : Served → ConsumerId
id_of one = one.consumer.id

abbrev standing_id : Standing → ConsumerId
standing_id one = one.id

servable-over : (o : Option Served)
    → option_and_then servable_by (option_map standing_one o) ≡ option_map standing_one (option_and_then servable_one o)
servable-over None = refl
servable-over (Some one) = by (may_serve one)
  where
    by : (b : Bool) → (if b then Some (standing_one one) else None) ≡ option_map standing_one (if b then Some one else None)
    by true = refl
    by false = refl

id-over : (o : Option Served) → option_map standing_id (option_map standing_one o) ≡ option_map id_of o
id-over None = refl
id-over (Some one) = refl

next-over : (single : Bool) (served : List Served)
    → next single (map standing_one served) ≡ option_map id_of (next_one single served)
next-over true served =
    ap (λ (o : Option Standing). option_map standing_id (option_and_then servable_by o))
    (find-over is_active standing_one served)
    ∙ ap (option_map standing_id) (servable-over (find is_current served)) ∙ id-over (active_one served)
next-over false served =
    ap (option_map standing_id) (least-over nat_lt standing_turn standing_one served) ∙ id-over (longest_one served)

-- each consumer is found by its id
found-in : (one : Served) (served : List Served) → AreApart served → In one served
    → one_of one.consumer.id served ≡ Some one
found-in one [] apart here = absurd here
found-in one (first ∷ served) apart (inl same) =
    cond-true (same_consumer first.consumer.id one.consumer.id) (Some first) (one_of one.consumer.id served)
    (ap (λ (o : Served). same_consumer o.consumer.id one.consumer.id) (sym same) ∙ same_consumer-refl one.consumer.id)
    ∙ ap (λ (o : Served). Some o) (sym same)
found-in one (first ∷ served) apart (inr later) =
    cond-false (same_consumer first.consumer.id one.consumer.id) (Some first) (one_of one.consumer.id served)
    (AllByRecursion-in (AreTwo first) one served apart.0 later).0
    ∙ found-in one served apart.1 later

turn-may : (one : Served) (b : Bool) → is_some (if b then Some one.consumer.turn else None) ≡ true → b ≡ true
turn-may one true is = refl
turn-may one false is = absurd cc

active-may : (o : Option Served) (one : Served) → option_and_then servable_one o ≡ Some one → may_serve one ≡ true
active-may None one is = absurd cc
active-may (Some other) one is = by (may_serve other) refl is
  where
    by : (b : Bool) → may_serve other ≡ b → (if b then Some other else None) ≡ Some one → may_serve one ≡ true
    by true may same = let e : other ≡ one = cc in subst (λ (k : Served). may_serve k ≡ true) e may
    by false may same = absurd cc

may-next : (single : Bool) (served : List Served) (one : Served) → next_one single served ≡ Some one
    → may_serve one ≡ true
may-next true served one is = active-may (find is_current served) one is
may-next false served one is =
    turn-may one (may_serve one) (least_by-in nat_lt servable_turn served one is).1

pub next-is : (single : Bool) (served : List Served) (o : Option ConsumerId) → AreApart served
    → o ≡ next single (map standing_one served) → IsNextIn single served o
next-is single served o apart is = by (next_one single served) refl o (is ∙ next-over single served)
  where
    by : (n : Option Served) → next_one single served ≡ n → (o : Option ConsumerId) → o ≡ option_map id_of n
        → IsNextIn single served o
    by None none None is = none
    by None none (Some id) is = absurd cc
    by (Some one) some None is = absurd cc
    by (Some one) some (Some id) is =
        let same : one.consumer.id ≡ id = cc in
        let found = found-in one served apart (next-in single served one some) in
        record {
          one = one;
          next = some;
          own = same;
          found = subst (λ (k : ConsumerId). one_of k served ≡ Some one) same found;
          may = may-next single served one some;
        }

pub none-is : (served : List Served) (single : Bool) → served ≡ [] → IsNextIn single served None
none-is served true is = ap (next_one true) is
none-is served false is = ap (next_one false) is

-- one that may be served waits
pub waits : (single : Bool) (served : List Served) (id : ConsumerId) → IsNextOne single served id
    → is_some (waiting_turn served id) ≡ true
waits single served id one =
    ap (λ (o : Option Served). is_some (option_and_then turn_of o)) one.found
    ∙ ap (λ (b : Bool). is_some (if b then Some one.one.consumer.turn else None)) one.may
