-- The dead messages that a queue keeps for its dead-letter worker.
use Rattle.std.specs.Prelude.{◌≡◌, ℕ, zero, suc, ◌+◌, ◌<◌, ◌≤◌, List, [], ◌∷◌, ◌++◌, Option, Some, None, Bool, not, ◌&&◌, nat_eq, nat_lt, nat_le, filter, find, count_by, slice_get, true, false, if◌then◌else◌}
use Rattle.std.specs.List.{AllByRecursion}
use Rattle.std.specs.Option.{option_map_or}
use Rattle.qq_entry.specs.declared.message.Reason.{Reason}
use Rattle.qq_entry.specs.declared.message.ReadyRow.{ReadyRow}
use Rattle.qq_model.specs.declared.TheConstants.{MOST_GIVEN}
use Rattle.qq_dead.specs.declared.row.DeadRow.{DeadRow}

-- the dead messages by rising number, how many numbers were drawn, the greatest one that the present worker was
-- given, and that worker's term, 0 for none
pub record Letters : Type 0 where
  pub rows : List DeadRow
  pub deads : ℕ
  pub given : ℕ
  pub attached : ℕ

-- these, and what they were at the last commit
pub record DeadState : Type 0 where
  pub letters : Letters
  pub base : Letters

abbrev pub no_letters : Letters
no_letters = record { rows = []; deads = 0; given = 0; attached = 0 }

-- a message dies, with the next number
abbrev pub add : ReadyRow → Reason → Letters → Letters
add row reason d =
    record d {
      deads = d.deads + 1;
      rows = d.rows ++ record { number = d.deads + 1; reason = reason; row = row } ∷ [];
    }

-- the worker of a greater term takes over, and begins anew
abbrev pub attach : ℕ → Letters → Letters
attach term d = if nat_lt d.attached term then record d { attached = term; given = 0 } else d

abbrev pub is_given : ℕ → DeadRow → Bool
is_given given one = nat_le one.number given

-- how many the worker has under way
abbrev pub given_count : ℕ → List DeadRow → ℕ
given_count given rows = count_by (is_given given) rows

-- the first that the worker wasn't given
abbrev pub next_dead : ℕ → List DeadRow → Option DeadRow
next_dead given rows = find (λ (one : DeadRow). nat_lt given one.number) rows

-- whether a worker is attached that has fewer under way than it may have
abbrev pub may_give : Letters → Bool
may_give d = nat_lt 0 d.attached && nat_lt (given_count d.given d.rows) MOST_GIVEN

-- the next one for the worker
abbrev pub next_offer : Letters → Option DeadRow
next_offer d = if may_give d then next_dead d.given d.rows else None

abbrev pub give_by : Option DeadRow → Letters → Letters
give_by None d = d
give_by (Some one) d = record d { given = one.number }

-- the worker is given the next one
abbrev pub give : Letters → Letters
give d = give_by (next_offer d) d

abbrev pub has_number : ℕ → DeadRow → Bool
has_number number one = nat_eq one.number number

-- whether the worker of a term was given a number
abbrev pub may_settle : ℕ → ℕ → Letters → Bool
may_settle term number d = nat_eq term d.attached && nat_le number d.given

-- the dead message of a number, if the worker of this term is attached and was given it
abbrev pub settled : ℕ → ℕ → Letters → Option DeadRow
settled term number d = if may_settle term number d then find (has_number number) d.rows else None

-- it is gone
abbrev pub settle : ℕ → ℕ → Letters → Letters
settle term number d =
    if may_settle term number d then
    record d { rows = filter (λ (one : DeadRow). not (has_number number one)) d.rows }
    else d

-- the first place at which a number isn't below this one
abbrev pub place_of : ℕ → List DeadRow → ℕ
place_of number [] = 0
place_of number (one ∷ rows) = if nat_lt one.number number then suc (place_of number rows) else 0

-- whether a number stands at a place
abbrev pub is_at : ℕ → ℕ → List DeadRow → Bool
is_at number place rows = option_map_or (has_number number) (slice_get rows place) false

abbrev pub Rises : List DeadRow → Type 0
Rises [] = Unit {0}
Rises (one ∷ rows) = AllByRecursion (λ (other : DeadRow). one.number < other.number) rows × Rises rows

abbrev pub IsDrawn : ℕ → DeadRow → Type 0
IsDrawn deads one = (0 < one.number) × (one.number ≤ deads)

-- numbers rise and were drawn, and the worker was given none that wasn't
pub record AreNumbered (d : Letters) : Type 0 where
  pub rising : Rises d.rows
  pub drawn : AllByRecursion (IsDrawn d.deads) d.rows
  pub given : d.given ≤ d.deads

-- the first n were given, and none of the others
abbrev pub SplitsAt : ℕ → ℕ → List DeadRow → Type 0
SplitsAt given zero rows = AllByRecursion (λ (one : DeadRow). given < one.number) rows
SplitsAt given (suc n) [] = ⊥
SplitsAt given (suc n) (one ∷ rows) = (one.number ≤ given) × SplitsAt given n rows

-- a settled message stands at this place
pub record IsSettledAt (term number : ℕ) (d : Letters) (place : ℕ) : Type 0 where
  pub may : may_settle term number d ≡ true
  pub at : place ≡ place_of number d.rows
  pub there : is_at number place d.rows ≡ true

-- no message is settled
pub record SettlesNothing (term number : ℕ) (d : Letters) : Type 0 where
  pub none : settled term number d ≡ None
  pub stays : settle term number d ≡ d

abbrev pub letters_of : List DeadRow → ℕ → ℕ → ℕ → Letters
letters_of rows deads given attached =
    record { rows = rows; deads = deads; given = given; attached = attached }
