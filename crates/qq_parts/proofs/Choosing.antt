-- The first ready message and the next consumer of the parts are those of the queue.
use Rattle.std.proofs.Common.{◌≡◌, ℕ, Bool, true, false, cond, List, [], ◌∷◌, ◌++◌, Option, Some, None, map, fold, nat_lt, refl, ap, ◌∙◌, subst, if◌then◌else◌}
use Rattle.std.specs.Prelude.{find}
use Rattle.std.specs.Option.{option_map, option_and_then}
use Rattle.qq_base.proofs.Lists.{In, find-in}
use Rattle.qq_model.specs.State.{State}
use Rattle.qq_model.specs.Choice.{is_lesser, lesser, next_message, waiting_turn, longest_waiting, next_consumer}
use Rattle.qq_model.proofs.Least.{least_by-in, least_by-same_keys}
use Rattle.qq_model.proofs.Lists.{AllByRecursion-from_in}
use Rattle.qq_parts.specs.Reduced.{Item, item_row}
use Rattle.qq_parts.specs.Parts.{Served, consumer_at, Parts, Stands, IsWhole}
use Rattle.qq_parts.specs.Reads.{first_of}
use Rattle.qq_parts.specs.Changes.{Taken, take_by, take_first}
use Rattle.qq_parts.specs.Outs.{taken_row}
use Rattle.qq_parts.specs.Turns.{may_serve, servable_one, is_current}
use Rattle.qq_parts.proofs.Reading.{next-is}
use Rattle.qq_parts.proofs.Waiting.{may-is}
use Rattle.qq_parts.proofs.Active.{active-is}
use Rattle.qq_parts.specs.Follows.{servable_turn, longest_one, next_one}

-- The first message -----------------------------------------------------------------------------------

first-by : (fronts backs : List Item) (m : Parts)
    → option_map item_row (first_of (fronts ++ backs)) ≡ option_map taken_row (take_by fronts backs m)
first-by [] [] m = refl
first-by [] (x ∷ backs) m = refl
first-by (x ∷ fronts) backs m = refl

pub first-row : (m : Parts) (s : State) → Stands m s → IsWhole m
    → next_message s.rows ≡ option_map taken_row (take_first m)
first-row m s stands whole = next-is m s stands whole ∙ first-by m.fronts m.backs m

-- what is left has the same consumers and counters
left-by : (fronts backs : List Item) (m : Parts) (taken : Taken) → take_by fronts backs m ≡ Some taken
    → (taken.left.served ≡ m.served) × (taken.left.rest ≡ m.rest)
left-by [] [] m taken is = absurd cc
left-by [] (x ∷ backs) m taken is =
    let same : record { item = x; left = record m { fronts = []; backs = backs } } ≡ taken = cc in
    subst (λ (t : Taken). (t.left.served ≡ m.served) × (t.left.rest ≡ m.rest)) same (refl, refl)
left-by (x ∷ fronts) backs m taken is =
    let same : record { item = x; left = record m { fronts = fronts; backs = backs } } ≡ taken = cc in
    subst (λ (t : Taken). (t.left.served ≡ m.served) × (t.left.rest ≡ m.rest)) same (refl, refl)

pub first-left : (m : Parts) (taken : Taken) → take_first m ≡ Some taken
    → (taken.left.served ≡ m.served) × (taken.left.rest ≡ m.rest)
first-left m taken is = left-by m.fronts m.backs m taken is

-- The next consumer -----------------------------------------------------------------------------------

lesser-over : {A B K : Type 0} (less : K → K → Bool) (key : B → Option K) (f : A → B) (best : Option A) (x : A)
    → lesser less key (option_map f best) (f x) ≡ option_map f (lesser less (λ (y : A). key (f y)) best x)
lesser-over {A = A} {B = B} less key f None x = by (is_lesser less (key (f x)) None)
  where
    by : (b : Bool) → cond b (Some (f x)) None ≡ option_map f (cond b (Some x) None)
    by true = refl
    by false = refl
lesser-over {A = A} {B = B} less key f (Some y) x = by (is_lesser less (key (f x)) (key (f y)))
  where
    by : (b : Bool) → cond b (Some (f x)) (Some (f y)) ≡ option_map f (cond b (Some x) (Some y))
    by true = refl
    by false = refl

pub fold-over : {A B K : Type 0} (less : K → K → Bool) (key : B → Option K) (f : A → B) (xs : List A) (best : Option A)
    → fold (lesser less key) (option_map f best) (map f xs)
    ≡ option_map f (fold (lesser less (λ (y : A). key (f y))) best xs)
fold-over less key f [] best = refl
fold-over {A = A} {B = B} less key f (x ∷ xs) best =
    ap (λ (o : Option B). fold (lesser less key) o (map f xs)) (lesser-over less key f best x)
    ∙ fold-over less key f xs (lesser less (λ (y : A). key (f y)) best x)

longest-is : (m : Parts) (s : State) → Stands m s → IsWhole m
    → next_consumer false s.rows s.consumers ≡ option_map consumer_at (longest_one m.served)
longest-is m s stands whole =
    let turn : Served → Option ℕ = λ one. waiting_turn s.rows one.consumer in
    ap (λ (t : State). longest_waiting s.rows t.consumers) stands.rest
    ∙ fold-over nat_lt (waiting_turn s.rows) consumer_at m.served None
    ∙ ap (option_map consumer_at) (least_by-same_keys nat_lt turn servable_turn m.served
    (AllByRecursion-from_in (λ (one : Served). turn one ≡ servable_turn one) m.served
    (λ one here. ap (λ (b : Bool). if b then Some one.consumer.turn else None) (may-is m s one stands whole here))))

pub next-one : (single : Bool) (m : Parts) (s : State) → Stands m s → IsWhole m
    → next_consumer single s.rows s.consumers ≡ option_map consumer_at (next_one single m.served)
next-one true m s stands whole = active-is m s stands whole
next-one false m s stands whole = longest-is m s stands whole

servable-same : (other one : Served) (b : Bool) → (if b then Some other else None) ≡ Some one → other ≡ one
servable-same other one true is = cc
servable-same other one false is = absurd cc

active-in : (ones : List Served) (one : Served) (o : Option Served) → find is_current ones ≡ o
    → option_and_then servable_one o ≡ Some one → In one ones
active-in ones one None found is = absurd cc
active-in ones one (Some other) found is =
    subst (λ (k : Served). In k ones) (servable-same other one (may_serve other) is)
    (find-in is_current ones other found).0

-- it is one of them
pub next-in : (single : Bool) (ones : List Served) (one : Served) → next_one single ones ≡ Some one → In one ones
next-in true ones one is = active-in ones one (find is_current ones) refl is
next-in false ones one is = (least_by-in nat_lt servable_turn ones one is).0
