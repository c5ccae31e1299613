-- The open sessions as they stand in memory: rows under their ids, in the order of opening.
use Rattle.std.specs.Prelude.{◌≡◌, ℕ, ◌<◌, Bool, true, false, List, [], ◌∷◌, map, Option, Some, None}
use Rattle.std.specs.List.{AllByRecursion, IsDistinct}
use Rattle.std.specs.Map.{keys_of, values_of, lookup}
use Rattle.qq_base.specs.declared.ids.SessionId.{SessionId}
use Rattle.qq_base.specs.Ids.{same_session}
use Rattle.qq_model.specs.declared.session.OpenSession.{OpenSession}
use Rattle.qq_model.specs.Gate.{is_open, is_worker}
use Rattle.std.specs.declared.collections.VecDeque.{VecDeque}
use Rattle.std.specs.VecDeque.{deque_len, deque_capacity}
use Rattle.qq_entry.specs.declared.answer.Answer.{Answer}
use Rattle.qq_sessions.specs.declared.row.SessionRow.{SessionRow}
use Rattle.qq_model.specs.declared.session.Worker.{Worker}
use Rattle.qq_sessions.specs.Rising.{has_owner}
use Rattle.qq_sessions.specs.Row.{open_of, slots}

-- the open sessions, and the one that is sure to be opened, or else to keep one more answer
pub record OpenedState : Type 0 where
  pub rows : List OpenSession
  pub room : Option SessionId

-- no two sessions have one id
abbrev pub AreApart : List OpenSession → Type 0
AreApart [] = Unit {0}
AreApart (one ∷ rest) = (is_open one.session rest ≡ false) × AreApart rest

-- each worker's session has its source queue among the workers
abbrev pub HasOwner : List Worker → OpenSession → Type 0
HasOwner workers one = is_worker one.session ≡ true → has_owner one.session.owner workers ≡ true

abbrev pub HaveOwners : List OpenSession → List Worker → Type 0
HaveOwners ones workers = AllByRecursion (HasOwner workers) ones

abbrev pub Entry : Type 0
Entry = SessionId × SessionRow

abbrev pub sessions_of : List Entry → List OpenSession
sessions_of entries = map open_of (values_of entries)

-- a row stands under its own id
abbrev pub HasOwnId : Entry → Type 0
HasOwnId entry = entry.0 ≡ entry.1.session

-- an open session has a slot for an answer; for another the map has a place, and a list of answers is at hand
abbrev pub HasRoomBy : Option SessionRow → ℕ → Bool → Type 0
HasRoomBy None spare at_hand = (0 < spare) × (at_hand ≡ true)
HasRoomBy (Some row) spare at_hand = 0 < slots row

abbrev pub HasRoom : Option SessionId → List Entry → ℕ → Bool → Type 0
HasRoom None entries spare at_hand = Unit {0}
HasRoom (Some session) entries spare at_hand = HasRoomBy (lookup (same_session session) entries) spare at_hand

pub record AreHeld (entries : List Entry) (spare : ℕ) (at_hand : Bool) (session : Option SessionId) : Type 0 where
  pub ids : AllByRecursion HasOwnId entries
  pub unique : IsDistinct same_session (keys_of entries)
  pub room : HasRoom session entries spare at_hand

-- a list of answers that waits for the next session: it is empty, and has room
abbrev pub IsReady : {Z : Type 0} → VecDeque Answer Z → Type 0
IsReady kept = (kept.items ≡ []) × (deque_len kept < deque_capacity kept)
