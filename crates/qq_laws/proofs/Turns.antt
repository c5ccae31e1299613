-- The next message comes first, and the next consumer has waited the longest.
use Rattle.std.proofs.Common.{◌≡◌, ℕ, ◌≤◌, true, false, List, Option, Some, None, refl, sym, ap, ◌∙◌}
use Rattle.std.specs.Prelude.{nat_lt, IfSome}
use Rattle.std.proofs.lemmas.Bool.{cond-true, ltb-false}
use Rattle.std.proofs.lemmas.List.Elements.{All-from_recursion}
use Rattle.qq_model.specs.declared.place.Place.{Place}
use Rattle.qq_model.specs.declared.place.Row.{Row}
use Rattle.qq_model.specs.declared.consumer.Consumer.{Consumer}
use Rattle.qq_model.specs.Choice.{is_lesser, key_less, place_key, ready_key, next_message, may_be_served, waiting_turn, longest_waiting}
use Rattle.qq_model.proofs.Least.{nat_lt-order, key_less-order, least_by-least}
use Rattle.qq_model.proofs.Choices.{next_message-in, longest_waiting-in}
use Rattle.qq_base.proofs.Lists.{AllByRecursion-weaker}
use Rattle.qq_laws.specs.Turns.{IsNotBefore, IsFirstMessage, HasWaitedLongest, ServesInTurn}

if_some : {A : Type 0} {P : A → Type 0} (o : Option A) → ((a : A) → o ≡ Some a → P a) → IfSome o P
if_some None holds = tt
if_some (Some a) holds = holds a refl

not_before : (first second : Place) → is_lesser key_less (place_key first) (place_key second) ≡ false
    → IsNotBefore first second
not_before first second h a b is_first is_second =
    ap (λ (p : Place). is_lesser key_less (place_key p) (Some b)) (sym is_first)
    ∙ ap (λ (p : Place). is_lesser key_less (place_key first) (place_key p)) (sym is_second)
    ∙ h

next_message-first : (rows : List Row) (row : Row) → next_message rows ≡ Some row → IsFirstMessage rows row
next_message-first rows row found = record {
  ready = (next_message-in rows row found).1;
  first = All-from_recursion (λ (other : Row). IsNotBefore other.place row.place) rows
      (AllByRecursion-weaker (λ (other : Row). is_lesser key_less (ready_key other) (ready_key row) ≡ false) _
      (λ other. not_before other.place row.place) rows
      (least_by-least key_less ready_key key_less-order rows row found));
}

pub first_is_next : (rows : List Row) → IfSome (next_message rows) (IsFirstMessage rows)
first_is_next rows = if_some (next_message rows) (next_message-first rows)

abbrev Waits : List Row → Consumer → Consumer → Type 0
Waits rows consumer other = may_be_served rows other ≡ true → consumer.turn ≤ other.turn

turn-waiting : (rows : List Row) (consumer : Consumer)
    → may_be_served rows consumer ≡ true → waiting_turn rows consumer ≡ Some consumer.turn
turn-waiting rows consumer may = cond-true (may_be_served rows consumer) (Some consumer.turn) None may

longest_waiting-first : (rows : List Row) (consumers : List Consumer) (consumer : Consumer)
    → longest_waiting rows consumers ≡ Some consumer → HasWaitedLongest rows consumers consumer
longest_waiting-first rows consumers consumer found = record {
  served = served;
  longest = All-from_recursion (Waits rows consumer) consumers
      (AllByRecursion-weaker (λ (other : Consumer). is_lesser nat_lt (turn other) (turn consumer) ≡ false) _ waits
      consumers
      (least_by-least nat_lt turn nat_lt-order consumers consumer found));
}
  where
    turn : Consumer → Option ℕ
    turn other = waiting_turn rows other

    served : may_be_served rows consumer ≡ true
    served = (longest_waiting-in rows consumers consumer found).1

    waits : (other : Consumer) → is_lesser nat_lt (turn other) (turn consumer) ≡ false → Waits rows consumer other
    waits other h may =
        ltb-false other.turn consumer.turn (
        ap (λ o. is_lesser nat_lt o (Some consumer.turn)) (sym (turn-waiting rows other may))
        ∙ ap (λ o. is_lesser nat_lt (turn other) o) (sym (turn-waiting rows consumer served))
        ∙ h
        )

pub serves_in_turn : (rows : List Row) (consumers : List Consumer) → ServesInTurn rows consumers
serves_in_turn rows consumers = if_some (longest_waiting rows consumers) (longest_waiting-first rows consumers)
