-- Members that restart.
use Rattle.std.specs.Prelude.{◌≡◌, ◌≤◌, ⊤, ℕ, Bool, true, false, [], length, take, Option, Some, None, slice_get}
use Rattle.qq_base.specs.declared.memory.Memory.TheVariants.{Want}
use Rattle.qq_log.specs.Log.{LogState}
use Rattle.qq_log.specs.Stable.{stable}
use Rattle.qq_raft_core.specs.Undone.{found, held_after, newest}
use Rattle.qq_raft_core.specs.declared.lanes.Lanes.{Lanes}
use Rattle.qq_raft_model.specs.Handing.{plain_state}
use Rattle.qq_raft.specs.declared.server.Server.{Server}
use Rattle.qq_raft_model.specs.Group.{Group as GroupState, happens}
use Rattle.qq_raft_model.specs.Group.Event.{Restart}
use Rattle.qq_group.specs.Group.{Represents}
use Rattle.qq_group.specs.Step.{ChangesSeat}
use Rattle.qq_group.specs.declared.group.Group.{Group}
use Rattle.qq_group.specs.declared.restart.RestartFault.{RestartFault}
use Rattle.qq_group.specs.declared.restart.RestartFault.TheVariants.{Lost, Memory}
use Rattle.qq_group.specs.declared.seat.Seat.{Seat}

-- what the ops of a member's log come to up to one that isn't older than what was noticed
pub record IsFound (g : GroupState) (k : ℕ) (l : LogState) : Type 0 where
  pub noticed : (g.seat k).noticed ≤ l.op
  pub handed : l.op ≤ length (g.seat k).ops
  pub is : stable (take l.op (g.seat k).ops) ≡ Some (plain_state l.op l.term l.vote l.entries)

-- whether it is known what a member's log was handed
abbrev pub is_known : {Q L : Type 0} → Option (Seat Q L) → Bool
is_known None = false
is_known (Some seat) = seat.known

-- Whichever state the group stood for, it stands for what a restart with this log makes of it. Where it isn't known
-- what the log was handed, the log is taken to be what that comes to.
abbrev pub Restarts : {Q L : Type 0} → (L → LogState) → ℕ → LogState → Group Q L → Group Q L → Type 0
Restarts log k l old new =
    (g : GroupState) → Represents log g old → (is_known (slice_get old.seats.items k) ≡ false → IsFound g k l)
    → Represents log (happens (Restart k l.op) g) new

-- a server's last changes lead back to a log
abbrev pub Holds : {L : Type 0} → (L → LogState) → LogState → Option (Lanes L) → Type 0
Holds log l None = ⊥
Holds log l (Some lanes) = held_after l.op lanes.undos.items (newest log lanes) ≡ found l

-- what was found is what the ops of a member's log come to, as far as these are known
abbrev pub IsIntact : {Q L : Type 0} → (L → LogState) → Seat Q L → LogState → Type 0
IsIntact log seat l = (seat.noticed ≤ l.op) × (l.op ≤ seat.handed) × Holds log l seat.left

abbrev pub IsIntactAt : {Q L : Type 0} → (L → LogState) → Option (Seat Q L) → LogState → Type 0
IsIntactAt log None l = ⊤
IsIntactAt log (Some seat) l = seat.known ≡ true → IsIntact log seat l

-- whichever state the group stands for, where it is known what the log was handed, this is what that comes to
abbrev pub Finds : {Q L : Type 0} → (L → LogState) → ℕ → LogState → Group Q L → Type 0
Finds log k l group =
    (g : GroupState) → Represents log g group → is_known (slice_get group.seats.items k) ≡ true → IsFound g k l

-- it is known what the log was handed, and this isn't what that comes to
pub record IsLost {Q L : Type 0} (log : L → LogState) (k : ℕ) (l : LogState) (group : Group Q L) : Type 0 where
  pub known : is_known (slice_get group.seats.items k) ≡ true
  pub other : (g : GroupState) → Represents log g group → IsFound g k l → ⊥

abbrev pub noticed_at : {Q L : Type 0} → Option (Seat Q L) → ℕ
noticed_at None = 0
noticed_at (Some seat) = seat.noticed

abbrev pub IsRestartCaused :
    {Q L : Type 0} → (L → LogState) → ℕ → LogState → Group Q L → RestartFault → Type 0
IsRestartCaused log k l old (Lost noticed found) =
    IsLost log k l old × (noticed ≡ noticed_at (slice_get old.seats.items k)) × (found ≡ l.op)
IsRestartCaused log k l old (Memory e) = e ≡ Want

-- the seat of a member that has started after an op
abbrev pub started_seat : {Q L : Type 0} → ℕ → Server Q L → Seat Q L → Seat Q L
started_seat op server seat =
    record { server = Some server; known = true; noticed = op; handed = op; left = None; returned = None }

-- a server is put into its seat
pub record IsStarted {Q L : Type 0} (k op : ℕ) (server : Server Q L) (old new : Group Q L) : Type 0 where
  pub was : Seat Q L
  pub changes : ChangesSeat k was (started_seat op server was) old new
  pub bag : new.bag ≡ old.bag
  pub audit : new.audit ≡ old.audit

-- a server that has applied nothing, with this machine
abbrev pub HasStarted : {P Q L : Type 0} → (P → Q → Type 0) → Q → Option (Server Q L) → Type 0
HasStarted stands machine None = ⊥
HasStarted {P} stands machine (Some s) =
    (queue : P) → stands queue machine → stands queue s.machine × (s.applied ≡ 0) × (s.rows.items ≡ [])
