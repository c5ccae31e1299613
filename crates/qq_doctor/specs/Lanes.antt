-- Where two lanes of a queue differ. A lane is what one node's files give of the queue: a base, which is the snapshot
-- that the log stands on, and the entries above it. Servers' logs that have an entry of one index and term have the same
-- entries up to it (Ongaro's dissertation, section 3.5, log matching).
use Rattle.std.specs.Prelude.{◌≡◌, ◌≢◌, ◌⊎◌, ◌+◌, ◌-◌, ◌*◌, ◌^◌, ◌<◌, ℕ, Bool, List, length, filter, min, Option, Some, None, option_map, nat_eq, nat_le, nat_lt, slice_get, if◌then◌else◌}
use Rattle.qq_base.specs.declared.ids.NodeId.{NodeId}
use Rattle.qq_base.specs.declared.ids.Term.{Term}
use Rattle.qq_entry.specs.declared.command.Entry.{Entry}
use Rattle.qq_log.specs.declared.lane.Lane.{Lane}

-- ---- one lane

abbrev pub base : Lane → ℕ
base lane = lane.base.index.0

-- the index of its last entry, or of its base where it has none, as far as 64 bits count
abbrev pub last : Lane → ℕ
last lane = min (base lane + length lane.entries) (2 ^ 64 - 1)

-- the entry at a place, of those above the base
abbrev pub entry_at : ℕ → Lane → Option Entry
entry_at place lane =
    if nat_lt (base lane) place then slice_get lane.entries (place - base lane - 1) else None

abbrev pub term_of : Entry → Term
term_of entry = entry.term

-- the term of the entry at a place, or of the base
abbrev pub term_at : ℕ → Lane → Option Term
term_at place lane =
    if nat_eq place (base lane) then Some lane.base.term else option_map term_of (entry_at place lane)

-- ---- two lanes

-- Two lanes differ at a place where both have an entry there, and the entries aren't equal; or where one has its base
-- there, and the other an entry or its base, of another term.
pub data Differ (place : ℕ) (a b : Lane) : Type 0 where
  ByEntry : (e f : Entry) → entry_at place a ≡ Some e → entry_at place b ≡ Some f → e ≢ f → Differ place a b
  ByTerm : (s t : Term) → (place ≡ base a) ⊎ (place ≡ base b) → term_at place a ≡ Some s → term_at place b ≡ Some t
      → s ≢ t → Differ place a b

-- ---- a queue's lanes

-- a node, and what its files give of the queue
abbrev pub Found : Type 0
Found = NodeId × Lane

-- a lane reaches each place up to its last
abbrev pub reaches : ℕ → Found → Bool
reaches place found = nat_le place (last found.1)

-- A place counts where the lanes that reach it are a majority of the members'.
abbrev pub Counts : (members : ℕ) → List Found → ℕ → Type 0
Counts members lanes place = members < 2 * length (filter (reaches place) lanes)

-- two of the lanes differ at a place: those that stand at these places of the list
pub record DifferAmong (place : ℕ) (lanes : List Found) (i j : ℕ) : Type 0 where
  pub x : Found
  pub y : Found
  pub x_is : slice_get lanes i ≡ Some x
  pub y_is : slice_get lanes j ≡ Some y
  pub differ : Differ place x.1 y.1
