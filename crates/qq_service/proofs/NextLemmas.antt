-- A table's next consumer is the queue's.
use Rattle.std.proofs.Common.{◌≡◌, ℕ, zero, suc, ◌+◌, Bool, true, false, not, cond, List, [], ◌∷◌, Option, Some, None, map, drop, refl, sym, ap, ◌∙◌, arith, if◌then◌else◌}
use Rattle.std.specs.Prelude.{nat_lt, find, fold, slice_get}
use Rattle.std.specs.Option.{option_and_then, option_map}
use Rattle.qq_entry.specs.declared.table.Standing.{Standing}
use Rattle.qq_model.specs.declared.place.Row.{Row}
use Rattle.qq_model.specs.declared.consumer.Consumer.{Consumer}
use Rattle.qq_model.specs.Choice.{is_lesser, lesser, may_be_served, waiting_turn, longest_waiting, servable_consumer, next_consumer}
use Rattle.qq_service.specs.Next.{servable_turn, servable_by, is_active, next, standing_of}

pub drop-at : {A : Type 0} (xs : List A) (k : ℕ) (x : A) → slice_get xs k ≡ Some x → drop k xs ≡ x ∷ drop (k + 1) xs
drop-at [] k x found = absurd cc
drop-at {A = A} (y ∷ xs) zero x found =
    let same : y ≡ x = cc in ap (λ (z : A). z ∷ xs) same
drop-at {A = A} (y ∷ xs) (suc k) x found =
    let next : (k + 1) + 1 ≡ suc (k + 1) = omega arith in
    let one : suc k + 1 ≡ suc (k + 1) = omega arith in
    drop-at xs k x found ∙ ap (λ (ys : List A). x ∷ ys) (sym (ap (λ n. drop n (y ∷ xs)) one))

turn-same : (rows : List Row) (best : Option Consumer)
    → option_and_then servable_turn (option_map (standing_of rows) best) ≡ option_and_then (waiting_turn rows) best
turn-same rows None = refl
turn-same rows (Some one) = refl

lesser-same : (rows : List Row) (best : Option Consumer) (one : Consumer)
    → lesser nat_lt servable_turn (option_map (standing_of rows) best) (standing_of rows one)
    ≡ option_map (standing_of rows) (lesser nat_lt (waiting_turn rows) best one)
lesser-same rows best one =
    ap (λ (o : Option ℕ). if is_lesser nat_lt (waiting_turn rows one) o then Some (standing_of rows one)
    else option_map (standing_of rows) best) (turn-same rows best)
    ∙ by (is_lesser nat_lt (waiting_turn rows one) (option_and_then (waiting_turn rows) best))
  where
    by : (b : Bool) → (if b then Some (standing_of rows one) else option_map (standing_of rows) best)
        ≡ option_map (standing_of rows) (if b then Some one else best)
    by true = refl
    by false = refl

longest-from : (rows : List Row) (all : List Consumer) (best : Option Consumer)
    → fold (lesser nat_lt servable_turn) (option_map (standing_of rows) best) (map (standing_of rows) all)
    ≡ option_map (standing_of rows) (fold (lesser nat_lt (waiting_turn rows)) best all)
longest-from rows [] best = refl
longest-from rows (one ∷ all) best =
    ap (λ (o : Option Standing). fold (lesser nat_lt servable_turn) o (map (standing_of rows) all))
    (lesser-same rows best one)
    ∙ longest-from rows all (lesser nat_lt (waiting_turn rows) best one)

active-same : (rows : List Row) (all : List Consumer)
    → find is_active (map (standing_of rows) all)
    ≡ option_map (standing_of rows) (find (λ (one : Consumer). not one.cancelled) all)
active-same rows [] = refl
active-same rows (one ∷ all) = by (not one.cancelled) (active-same rows all)
  where
    by : (b : Bool) → find is_active (map (standing_of rows) all)
        ≡ option_map (standing_of rows) (find (λ (other : Consumer). not other.cancelled) all)
        → cond b (Some (standing_of rows one)) (find is_active (map (standing_of rows) all))
        ≡ option_map (standing_of rows) (cond b (Some one) (find (λ (other : Consumer). not other.cancelled) all))
    by true rest = refl
    by false rest = rest

servable-id : (rows : List Row) (o : Option Consumer)
    → option_map (λ (one : Standing). one.id) (option_and_then servable_by (option_map (standing_of rows) o))
    ≡ option_map (λ (one : Consumer). one.id) (option_and_then (servable_consumer rows) o)
servable-id rows None = refl
servable-id rows (Some one) = by (may_be_served rows one)
  where
    by : (b : Bool) → option_map (λ (other : Standing). other.id) (if b then Some (standing_of rows one) else None)
        ≡ option_map (λ (other : Consumer). other.id) (if b then Some one else None)
    by true = refl
    by false = refl

longest-id : (rows : List Row) (o : Option Consumer)
    → option_map (λ (one : Standing). one.id) (option_map (standing_of rows) o)
    ≡ option_map (λ (one : Consumer). one.id) o
longest-id rows None = refl
longest-id rows (Some one) = refl

pub next-queue : (single : Bool) (rows : List Row) (all : List Consumer)
    → next single (map (standing_of rows) all)
    ≡ option_map (λ (one : Consumer). one.id) (next_consumer single rows all)
next-queue true rows all =
    ap (λ (o : Option Standing). option_map (λ (one : Standing). one.id) (option_and_then servable_by o))
    (active-same rows all)
    ∙ servable-id rows (find (λ (one : Consumer). not one.cancelled) all)
next-queue false rows all =
    ap (λ (o : Option Standing). option_map (λ (one : Standing). one.id) o) (longest-from rows all None)
    ∙ longest-id rows (longest_waiting rows all)
