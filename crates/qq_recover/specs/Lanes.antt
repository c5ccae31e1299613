-- The lanes that recovery hands out.
use Rattle.std.specs.Prelude.{◌≡◌, List, [], ◌∷◌, ◌++◌, Option, Some, None}
use Rattle.qq_base.specs.declared.ids.QueueId.{QueueId}
use Rattle.qq_log.specs.declared.lane.Lane.{Lane}
use Rattle.qq_log.specs.Stable.{Stable}
use Rattle.qq_wal_chain.specs.Image.{put}
use Rattle.qq_wal_chain.specs.Lanes.{Lanes}
use Rattle.qq_recover.specs.State.{IsPlainLaneOf}

-- the lane of a queue with this state comes first, one without has none, and then come the others
abbrev pub Begins : (List Lane → Type 0) → QueueId → Option Stable → List Lane → Type 0
Begins others id None list = others list
Begins others id (Some s) [] = ⊥
Begins others id (Some s) (lane ∷ list) = (lane.queue ≡ id) × IsPlainLaneOf s lane × others list

-- one lane for each of the queues that has a state, in their order
abbrev pub AreLanes : List QueueId → Lanes → List Lane → Type 0
AreLanes [] lanes [] = Unit {0}
AreLanes [] lanes (lane ∷ list) = ⊥
AreLanes (id ∷ queues) lanes list = Begins (AreLanes queues (put lanes id.0 None)) id (lanes id.0) list

-- the lane of a queue is taken out of those that are left, and added behind those that were taken
abbrev pub IsAdded : QueueId → Option Stable → List Lane → List Lane → Type 0
IsAdded id None before after = after ≡ before
IsAdded id (Some s) before after =
    (lane : Lane) × (after ≡ before ++ lane ∷ []) × (lane.queue ≡ id) × IsPlainLaneOf s lane

pub record AddsLane (id : QueueId) (old new : Lanes) (before after : List Lane) : Type 0 where
  pub lane : IsAdded id (old id.0) before after
  pub rest : new ≡ put old id.0 None
