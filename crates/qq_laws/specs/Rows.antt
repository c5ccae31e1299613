-- The rows of a queue: one for each message that ever arrived.
use Rattle.std.specs.Prelude.{◌≡◌, ◌≤◌, ◌<◌, ◌⊎◌, ◌+◌, ℕ, Bool, true, false, List, [], ◌∷◌, ◌++◌, Option, Some, None, All, AllPairs, length, count_by, slice_index_or, slice_get}
use Rattle.std.specs.List.{AllZip}
use Rattle.qq_base.specs.declared.ids.Index.{Index}
use Rattle.qq_entry.specs.declared.message.Message.{Message}
use Rattle.qq_entry.specs.declared.command.Entry.{Entry}
use Rattle.qq_model.specs.declared.place.Key.TheVariants.{Back}
use Rattle.qq_model.specs.declared.place.GoneReason.{GoneReason}
use Rattle.qq_model.specs.declared.place.Place.{Place}
use Rattle.qq_model.specs.declared.place.Place.TheVariants.{Ready, Gone}
use Rattle.qq_model.specs.declared.place.Row.{Row}
use Rattle.qq_model.specs.State.{State}
use Rattle.qq_model.specs.Limits.{is_with_consumer, is_live, ready_count, dead_count}
use Rattle.qq_model.specs.Step.{Step}
use Rattle.qq_model.specs.Audit.{next_index, next_step}
use Rattle.qq_model.specs.Reasons.{Follows, may_go}
use Rattle.qq_laws.specs.Published.{new_message}

-- the row of a message that arrives: at the back of the queue, with the index of its entry
abbrev pub new_row : State → Index → Message → Row
new_row s index message =
    record {
      index = index;
      arrival = s.arrivals + 1;
      count = 0;
      size = message.size;
      place = Ready (Back (s.orders + 1));
    }

abbrev pub new_rows : State → Index → Option Message → List Row
new_rows s index None = []
new_rows s index (Some message) = new_row s index message ∷ []

abbrev pub new_messages : Option Message → List Message
new_messages None = []
new_messages (Some message) = message ∷ []

-- An entry leaves each message that there was where it was, or moves it as its command may; a message that it
-- brought is the last one, and may be moved too. Nothing is ever taken out.
pub record StepsRows (s : State) (entry : Entry) (made : Step) : Type 0 where
  pub args : made.state.args ≡ s.args
  pub rows : AllZip (Follows s.args entry.command)
      (s.rows ++ new_rows s (next_index s) (new_message made.fresh made.answer entry.command)) made.state.rows
  pub messages : made.state.messages ≡ s.messages ++ new_messages (new_message made.fresh made.answer entry.command)

-- a message that is gone after an entry was so before it, or the command of the entry explains why it is gone
abbrev pub IsGoneForAReason : State → Entry → Type 0
IsGoneForAReason s entry =
    (k : ℕ) (row : Row) (reason : GoneReason) → slice_get (next_step s entry).state.rows k ≡ Some row
    → row.place ≡ Gone reason
    → (slice_get s.rows k ≡ Some row) ⊎ (may_go s.args entry.command reason ≡ true)

-- The messages stand in the order of their entries, and are counted from 1 as they arrive; beside each stands
-- what it carries.
pub record IsInOrder (s : State) : Type 0 where
  pub rising : AllPairs (λ (a b : Row). a.index.0 < b.index.0) s.rows
  pub below : All (λ (row : Row). row.index.0 ≤ s.applied) s.rows
  pub counted : (k : ℕ) (d : Row) → k < length s.rows → (slice_index_or s.rows k d).arrival ≡ k + 1
  pub arrivals : length s.rows ≡ s.arrivals
  pub messages : length s.messages ≡ s.arrivals

-- what later entries may do to a message: its index, arrival and size stay, and once gone it stays as it is
pub record Lasts (old new : Row) : Type 0 where
  pub index : new.index ≡ old.index
  pub arrival : new.arrival ≡ old.arrival
  pub size : new.size ≡ old.size
  pub gone : is_live old.place ≡ false → new ≡ old

-- the messages that there were are a prefix, each as it lasts
abbrev pub LastsIn : List Row → List Row → Type 0
LastsIn old new = (prefix : List Row) × (more : List Row) × (new ≡ prefix ++ more) × AllZip Lasts old prefix

abbrev pub is_gone : Place → Bool
is_gone (Gone reason) = true
is_gone _ = false

-- how many messages consumers hold, and how many are gone
abbrev pub held_count : List Row → ℕ
held_count rows = count_by (λ (row : Row). is_with_consumer row.place) rows

abbrev pub gone_count : List Row → ℕ
gone_count rows = count_by (λ (row : Row). is_gone row.place) rows

-- each message that ever arrived is ready, with a consumer, dead, or gone
pub record AddsUp (s : State) : Type 0 where
  pub rows : length s.rows ≡ s.arrivals
  pub places : ready_count s.rows + held_count s.rows + dead_count s.rows + gone_count s.rows ≡ s.arrivals
