-- The dead letters in the parts of a queue.
use Rattle.std.specs.Prelude.{◌≡◌, ℕ, List, Option, Some, nat_lt, nat_le, find, count_by}
use Rattle.std.specs.Option.{option_map}
use Rattle.qq_model.specs.State.{State}
use Rattle.qq_model.specs.Commands.{dead_row}
use Rattle.qq_model.specs.Serving.{next_dead, given_count}
use Rattle.qq_parts.specs.Reduced.{Item, item_row}
use Rattle.qq_parts.specs.Parts.{Parts, item_number}
use Rattle.qq_parts.specs.Changes.{Taken, IsTaken}
use Rattle.qq_parts.specs.Outs.{Cut, cut_id, taken_row}

abbrev pub dead_of : Parts → Cut → Taken
dead_of m cut = record { item = cut.item; left = record m { dead = cut.rest } }

-- the dead message of a number is taken out
abbrev pub take_dead : ℕ → Parts → Option Taken
take_dead number m = option_map (dead_of m) (cut_id number m.dead)

-- the first dead message above what was given
abbrev pub first_above : ℕ → List Item → Option Item
first_above given xs = find (λ (x : Item). nat_lt given (item_number x)) xs

abbrev pub given_of : ℕ → List Item → ℕ
given_of given xs = count_by (λ (x : Item). nat_le (item_number x) given) xs

-- The next dead message for the worker is the first above what it was given, it has so many under way, and the dead
-- message of a number may be taken out.
pub record TellsDead (m : Parts) (s : State) : Type 0 where
  pub next : (given : ℕ) → next_dead given s.rows ≡ option_map item_row (first_above given m.dead)
  pub count : (given : ℕ) → given_count given s.rows ≡ given_of given m.dead
  pub found : (number : ℕ) → dead_row number s.rows ≡ option_map taken_row (take_dead number m)
  pub taken : (number : ℕ) (taken : Taken) → take_dead number m ≡ Some taken → IsTaken taken m s
