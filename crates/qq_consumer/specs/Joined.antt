-- The consumers as they stand in memory: rows under their ids, in the order of joining, and what leads back
-- to those at the last commit.
use Rattle.std.specs.Prelude.{◌≡◌, ◌⊎◌, ℕ, ◌<◌, ◌≤◌, List, [], ◌∷◌, map, length, insert, false}
use Rattle.std.specs.List.{AllByRecursion, IsDistinct}
use Rattle.std.specs.Map.{keys_of, values_of}
use Rattle.qq_base.specs.declared.ids.ConsumerId.{ConsumerId}
use Rattle.qq_base.specs.Ids.{same_consumer}
use Rattle.qq_entry.specs.declared.message.ReadyRow.{ReadyRow}
use Rattle.qq_model.specs.declared.consumer.Consumer.{Consumer}
use Rattle.qq_parts.specs.Parts.{Served}
use Rattle.qq_consumer.specs.declared.rising.Numbered.{Numbered}
use Rattle.qq_consumer.specs.Numbers.{Rises, AreBelow}
use Rattle.qq_consumer.specs.declared.row.ConsumerRow.{ConsumerRow}
use Rattle.qq_consumer.specs.declared.seat.Seat.{Seat}
use Rattle.qq_consumer.specs.declared.step.Step.{Step}
use Rattle.qq_consumer.specs.declared.step.Step.TheVariants as step
use Rattle.qq_consumer.specs.Roster.{served_of, out_item}

-- the consumers, and those at the last commit
pub record JoinedState : Type 0 where
  pub served : List Served
  pub base : List Served

abbrev pub Entry : Type 0
Entry = ConsumerId × Seat

-- a consumer as it is
abbrev pub seat_one : Seat → Served
seat_one seat = served_of seat.row

-- and as it was at the last commit
abbrev pub base_one : Seat → Served
base_one seat = record { consumer = seat.base; out = map (out_item seat.base.id) seat.row.out.base }

-- seats that are seen in some way
abbrev pub seen : {A : Type 0} → (Seat → A) → List Entry → List A
seen see entries = map see (values_of entries)

abbrev pub ones_of : List Entry → List Served
ones_of entries = seen seat_one entries

abbrev pub bases_of : List Entry → List Served
bases_of entries = seen base_one entries

-- Steps -----------------------------------------------------------------------------------------------

-- all but the last
abbrev pub without_last : {A : Type 0} → List A → List A
without_last [] = []
without_last (x ∷ []) = []
without_last (x ∷ y ∷ rest) = x ∷ without_last (y ∷ rest)

-- the list that a step was made on, of seats that are seen in some way
abbrev pub undo_step : {A : Type 0} → (Seat → A) → Step → List A → List A
undo_step see (step.Joined) xs = without_last xs
undo_step see (step.Left place seat) xs = insert xs place (see seat)

-- the list that a journal began with, whose newest step is the first
abbrev pub undone : {A : Type 0} → (Seat → A) → List Step → List A → List A
undone see [] xs = xs
undone see (s ∷ steps) xs = undone see steps (undo_step see s xs)

-- Rows ------------------------------------------------------------------------------------------------

-- what is out with a consumer has ids that rise and that it was given
pub record AreGiven (consumer : Consumer) (items : List (Numbered ReadyRow)) : Type 0 where
  pub rising : Rises items
  pub below : AreBelow consumer.next_id items
  pub first : 0 < consumer.next_id

abbrev pub IsGiven : ConsumerRow → Type 0
IsGiven row = AreGiven row.consumer row.out.items

abbrev pub WasGiven : Seat → Type 0
WasGiven seat = AreGiven seat.base seat.row.out.base

-- a row stands under its own id
abbrev pub HasOwnId : Entry → Type 0
HasOwnId entry = entry.0 ≡ entry.1.row.consumer.id

abbrev pub HoldsOut : Entry → Type 0
HoldsOut entry = IsGiven entry.1.row

abbrev pub HoldsBase : Entry → Type 0
HoldsBase entry = (entry.0 ≡ entry.1.base.id) × WasGiven entry.1

pub record AreJoined (entries : List Entry) : Type 0 where
  pub ids : AllByRecursion HasOwnId entries
  pub unique : IsDistinct same_consumer (keys_of entries)
  pub out : AllByRecursion HoldsOut entries
  pub base : AllByRecursion HoldsBase entries

-- one that left is at its place again, as it was
pub record ComesBack (seat back : Seat) (place : ℕ) (old new : List Entry) : Type 0 where
  pub entries : new ≡ insert old place (seat.base.id, back)
  pub base : back.base ≡ seat.base
  pub base_same : base_one back ≡ base_one seat
  pub consumer : back.row.consumer ≡ seat.base
  pub items : back.row.out.items ≡ seat.row.out.base
  pub out : back.row.out.base ≡ seat.row.out.base

-- Journals --------------------------------------------------------------------------------------------

abbrev pub base_id : Seat → ConsumerId
base_id seat = seat.base.id

-- a step can be undone where these ids are
abbrev pub CanUndoStep : Step → List ConsumerId → Type 0
CanUndoStep (step.Joined) ids = Unit {0}
CanUndoStep (step.Left place seat) ids =
    (place ≤ length ids) × AllByRecursion (λ id. same_consumer seat.base.id id ≡ false) ids × WasGiven seat

abbrev pub CanUndo : List Step → List ConsumerId → Type 0
CanUndo [] ids = Unit {0}
CanUndo (s ∷ steps) ids = CanUndoStep s ids × CanUndo steps (undo_step base_id s ids)

abbrev pub IsAmong : ConsumerId → List ConsumerId → Type 0
IsAmong id [] = ⊥
IsAmong id (other ∷ ids) = (id ≡ other) ⊎ IsAmong id ids

-- a consumer is as at the last commit, or among those that changed
abbrev pub IsTracked : List ConsumerId → Entry → Type 0
IsTracked touched entry = (base_one entry.1 ≡ seat_one entry.1) ⊎ IsAmong entry.0 touched

-- the consumers at the last commit can be had again, without memory
pub record CanGoBack (entries : List Entry) (journal : List Step) (touched : List ConsumerId) (spare : ℕ) : Type 0 where
  pub joined : AreJoined entries
  pub steps : CanUndo journal (seen base_id entries)
  pub tracked : AllByRecursion (IsTracked touched) entries
  pub room : length journal ≤ spare
