-- How ops leave a group for the members' logs.
use Rattle.std.specs.Prelude.{◌≡◌, ◌⊎◌, ◌+◌, ◌-◌, ◌≤◌, ◌^◌, ◌&&◌, ◌++◌, [], ℕ, zero, suc, Bool, true, false, List, length, drop, Option, Some, None, is_none, is_some, min, if◌then◌else◌, slice_get}
use Rattle.std.specs.Option.{option_to_list}
use Rattle.qq_log.specs.Log.{LogState}
use Rattle.qq_log.specs.declared.op.Op.{Op}
use Rattle.qq_raft_core.specs.Raft.{server_of}
use Rattle.qq_raft_core.specs.Undone.{last_handed}
use Rattle.qq_raft.specs.declared.server.Server.{Server}
use Rattle.qq_raft_model.specs.Group.{Group as GroupState, happens}
use Rattle.qq_raft_model.specs.Group.Event.{Take}
use Rattle.qq_group.specs.Step.{ChangesSeat}
use Rattle.qq_group.specs.declared.group.Group.{Group}
use Rattle.qq_group.specs.declared.seat.Seat.{Seat}

-- a server has handed out so many changes
pub record IsHandedOut {Q L : Type 0} (n : ℕ) (old new : Seat Q L) : Type 0 where
  pub was : Server Q L
  pub now : Server Q L
  pub up : old.server ≡ Some was
  pub seat : new ≡ record old { server = Some now; handed = new.handed; returned = new.returned }
  pub count : (new.handed ≡ min (old.handed + n) (2 ^ 64 - 1)) ⊎ ((n ≡ 0) × (new.handed ≡ old.handed))
  pub same : now ≡ record was { raft = record was.raft { ops = now.raft.ops } }
  pub there : n ≤ length was.raft.ops.items
  pub rest : now.raft.ops.items ≡ drop n was.raft.ops.items

-- and nothing else has changed
pub record IsHandedOutAt {Q L : Type 0} (n k : ℕ) (old new : Group Q L) : Type 0 where
  pub seat : Seat Q L
  pub now : Seat Q L
  pub changes : ChangesSeat k seat now old new
  pub out : IsHandedOut n seat now
  pub bag : new.bag ≡ old.bag
  pub audit : new.audit ≡ old.audit

-- ---- ops that are given back

-- a member that is up has an op that was given back
abbrev pub has_returned : {Q L : Type 0} → Option (Seat Q L) → Bool
has_returned None = false
has_returned (Some seat) = is_some seat.server && is_some seat.returned

-- an op is given back to a member that is up, one at a time
abbrev pub takes_back : {Q L : Type 0} → Option (Seat Q L) → Bool
takes_back None = false
takes_back (Some seat) = is_some seat.server && is_none seat.returned

-- how many ops a log was handed; one that was given back doesn't count
abbrev pub held : {Q L : Type 0} → Seat Q L → ℕ
held seat = if is_some seat.returned then seat.handed - 1 else seat.handed

abbrev pub returned_at : {Q L : Type 0} → Option (Seat Q L) → Option Op
returned_at None = None
returned_at (Some seat) = seat.returned

abbrev pub with_returned : {Q L : Type 0} → Option Op → Option (Seat Q L) → Option (Seat Q L)
with_returned returned None = None
with_returned returned (Some seat) = Some (record seat { returned = returned })

-- the seat of a member that is given an op back
abbrev pub given_back : {Q L : Type 0} → Bool → Op → Option (Seat Q L) → Option (Seat Q L)
given_back true op seat = with_returned (Some op) seat
given_back false op seat = seat

-- the op that a server handed out last, where it isn't noticed
abbrev pub IsLastBy : {Q L : Type 0} → (L → LogState) → Op → Option (Server Q L) → Type 0
IsLastBy log op None = ⊥
IsLastBy log op (Some s) = last_handed log s.raft ≡ Some op

abbrev pub IsLastOf : {Q L : Type 0} → (L → LogState) → Op → Option (Seat Q L) → Type 0
IsLastOf log op None = ⊥
IsLastOf log op (Some seat) = IsLastBy log op seat.server

-- all but one seat, and all but the seats, is as it was
pub record ChangesOnly {Q L : Type 0} (k : ℕ) (old new : Group Q L) : Type 0 where
  pub others : (q : ℕ) → (q ≡ k → ⊥) → slice_get new.seats.items q ≡ slice_get old.seats.items q
  pub queue : new.queue ≡ old.queue
  pub nodes : new.nodes ≡ old.nodes
  pub bag : new.bag ≡ old.bag
  pub audit : new.audit ≡ old.audit

-- what the members were given back stays
abbrev pub KeepsReturned : {Q L : Type 0} → Group Q L → Group Q L → Type 0
KeepsReturned old new =
    (k : ℕ) → returned_at (slice_get new.seats.items k) ≡ returned_at (slice_get old.seats.items k)

-- what a member was given back is changed
pub record Refills {Q L : Type 0} (k : ℕ) (returned : Option Op) (old new : Group Q L) : Type 0 where
  pub seat : slice_get new.seats.items k ≡ with_returned returned (slice_get old.seats.items k)
  pub only : ChangesOnly k old new

-- ---- the next op

-- of a server that is up: one that was given back, else the first that it hasn't handed out
abbrev pub next_by : {Q L : Type 0} → (L → LogState) → Option Op → Option (Server Q L) → Option Op
next_by log returned None = None
next_by log (Some op) (Some s) = Some op
next_by log None (Some s) = slice_get (server_of log s.raft).ops 0

abbrev pub next_at : {Q L : Type 0} → (L → LogState) → Option (Seat Q L) → Option Op
next_at log None = None
next_at log (Some seat) = next_by log seat.returned seat.server

-- an op that was given back left its server before
abbrev pub hands : ℕ → Bool → GroupState → GroupState
hands k true g = g
hands k false g = happens (Take k) g

-- ---- all ops that wait

abbrev pub waiting_by : {Q L : Type 0} → Option Op → Option (Server Q L) → List Op
waiting_by returned None = []
waiting_by returned (Some s) = option_to_list returned ++ s.raft.ops.items

-- of a member that is up: one that was given back, and then those that its server hasn't handed out
abbrev pub waiting_at : {Q L : Type 0} → Option (Seat Q L) → List Op
waiting_at None = []
waiting_at (Some seat) = waiting_by seat.returned seat.server

abbrev pub count_by : {Q L : Type 0} → Option (Server Q L) → ℕ
count_by None = 0
count_by (Some s) = length s.raft.ops.items

-- a server's next ops are handed to its log, so many
abbrev pub takes : ℕ → ℕ → GroupState → GroupState
takes k zero g = g
takes k (suc n) g = happens (Take k) (takes k n g)
