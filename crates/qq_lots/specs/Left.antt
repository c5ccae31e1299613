-- What is left of a log's queues after a crash, and what recovery goes on with.
use Rattle.std.specs.Prelude.{◌≡◌, ◌≤◌, ℕ, length, take, Option, Some, unwrap_or}
use Rattle.std.specs.List.{AllByRecursion}
use Rattle.qq_base.specs.declared.ids.QueueId.{QueueId}
use Rattle.qq_disk.specs.Crash.{Remains, IsImage}
use Rattle.qq_disk.specs.Disk.{Disk}
use Rattle.qq_log.specs.Stable.{Stable, new_state, stable}
use Rattle.qq_wal.specs.Running.{top}
use Rattle.qq_wal_chain.specs.Lanes.{Lanes}
use Rattle.qq_wal_chain.specs.Laws.{IsHonestImage, lanes_read}
use Rattle.qq_lots.specs.Lots.{Lot, Part, Parts, ids_of}

-- a queue's state, a new one where it has no ops
abbrev pub state_in : Lanes → QueueId → Stable
state_in lanes id = unwrap_or (lanes id.0) new_state

-- how many ops of each queue its lane has
abbrev pub ops_found : Lot → Lanes → ℕ → ℕ
ops_found lot lanes = λ place. (state_in lanes (lot.id place)).op

-- a state is what first ops of a queue give: at least all that a sync has kept, and at most all that were given to an
-- append
pub record IsBetween (p : Part) (state : Stable) : Type 0 where
  pub least : p.synced ≤ state.op
  pub most : state.op ≤ length p.ops
  pub is : stable (take state.op p.ops) ≡ Some state

abbrev pub AllBetween : Lot → Parts → Lanes → Type 0
AllBetween lot parts lanes =
    AllByRecursion (λ (place : ℕ). IsBetween (parts place) (state_in lanes (lot.id place))) lot.places

-- recovery reads such a state of each queue of the lot
pub record ReadsBetween (lot : Lot) (parts : Parts) (read : Option Lanes) : Type 0 where
  pub lanes : Lanes
  pub is : read ≡ Some lanes
  pub each : AllBetween lot parts lanes

-- and so of whatever a crash leaves now, under the log's premise on that
abbrev pub LeavesBetween : Lot → Parts → Disk → Type 0
LeavesBetween lot parts d =
    (image : Remains) → IsImage d image → IsHonestImage (ids_of lot) d image
    → ReadsBetween lot parts (lanes_read (ids_of lot) top image)
