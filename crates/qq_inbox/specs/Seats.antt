-- The marks: a word for each queue, its last op that is synced, and a word for the stop. They only rise.
use Rattle.std.specs.Prelude.{◌≡◌, ◌≤◌, ℕ, Bool, true, false, cond, ◌||◌, List, [], ◌∷◌, max, replicate, slice_index, slice_set}
use mathlib.Core.Option.{some}
use lib.ListN.{get_elem?}
use Rattle.atomic_table.specs.Table.{State, Me, Step}
use Rattle.qq_inbox.specs.declared.seat.SeatView.{SeatView}
use Rattle.qq_inbox.specs.declared.seat.TheConstants.{STOP}
use Rattle.qq_inbox.specs.Rights.{Owned}

-- ---- lists of numbers, one for each mark

-- each number is at or below the one at its place in the other list
abbrev pub AtMost : List ℕ → List ℕ → Type 0
AtMost [] ys = Unit {0}
AtMost (x ∷ xs) [] = ⊥
AtMost (x ∷ xs) (y ∷ ys) = (x ≤ y) × AtMost xs ys

-- the greater number at each place
abbrev pub greater : List ℕ → List ℕ → List ℕ
greater [] ys = ys
greater (x ∷ xs) [] = x ∷ xs
greater (x ∷ xs) (y ∷ ys) = max x y ∷ greater xs ys

-- ---- what a seat knows

abbrev pub seat_view : Bool → List ℕ → List ℕ → SeatView
seat_view raises raised seen = record { raises = raises; raised = raised; seen = seen }

-- that of the first seat, at so many words
abbrev pub first_seat : ℕ → SeatView
first_seat words = seat_view true (replicate words 0) (replicate words 0)

-- that of a seat that was joined to another
abbrev pub spent_seat : SeatView
spent_seat = seat_view false [] []

-- a mark is raised to a number, or stays where it is higher
abbrev pub raised_to : SeatView → ℕ → ℕ → SeatView
raised_to v mark n =
    let top = max (slice_index v.raised mark) n in
    seat_view v.raises (slice_set v.raised mark top) (slice_set v.seen mark top)

-- a mark was looked at and stood at a number
abbrev pub looked : SeatView → ℕ → ℕ → SeatView
looked v mark n = seat_view v.raises v.raised (slice_set v.seen mark n)

-- a new seat may only look, and has seen what the other had seen
abbrev pub reader : SeatView → SeatView
reader v = seat_view false v.raised v.seen

-- the right to raise, from the one that has it, and what both have seen
abbrev pub joined_seat : SeatView → SeatView → SeatView
joined_seat v w =
    seat_view (v.raises || w.raises) (cond v.raises v.raised w.raised) (greater v.seen w.seen)

-- ---- the rule

-- The stop's word is 0 or 1. The words are what has been raised, which the one seat that may raise knows. No
-- seat has seen a word higher than it is.
abbrev pub Marked : {S : Type 0} → State S SeatView → Type 0
Marked s =
    (slice_index s.words STOP ≤ 1)
    × Owned (λ (v : SeatView). v.raises) (λ (v : SeatView). v.raised) s.words s.views
    × ((seat : ℕ) (v : SeatView) → get_elem? s.views seat ≡ some v → AtMost v.seen s.words)

-- ---- what a step tells

-- at a raise
abbrev pub Raises : {S : Type 0} → Step S → Me S SeatView → ℕ → Me S SeatView → Type 0
Raises step seat found after = after ≡ (raised_to seat.0 step.word step.first, seat.1)

-- at a look: no less than was seen before, and what was raised where the seat may raise
abbrev pub Looks : {S : Type 0} → Step S → Me S SeatView → ℕ → Me S SeatView → Type 0
Looks step seat found after =
    (after ≡ (looked seat.0 step.word found, seat.1)) × (slice_index seat.0.seen step.word ≤ found)
    × (seat.0.raises ≡ true → found ≡ slice_index seat.0.raised step.word) × (step.word ≡ STOP → found ≤ 1)

-- at a look of the seat that may raise: nothing was seen that it hasn't raised
abbrev pub Checks : {S : Type 0} → Step S → Me S SeatView → ℕ → Me S SeatView → Type 0
Checks step seat found after = (after ≡ seat) × (seat.0.raises ≡ true → AtMost seat.0.seen seat.0.raised)

-- a stop's word as an answer tells it
abbrev pub bit : Bool → ℕ
bit b = cond b 1 0
