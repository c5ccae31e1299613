-- What a lane tells among those that were read.
use Rattle.std.specs.Prelude.{◌≡◌, Some}
use Rattle.qq_log.specs.declared.lane.Lane.{Lane}
use Rattle.qq_log.specs.Stable.{Stable}
use Rattle.qq_wal_chain.specs.Lanes.{Lanes}
use Rattle.qq_recover.specs.State.{IsPlainLaneOf}

-- its queue has a state among the lanes that were read, and it is the lane of that
abbrev pub IsTold : Lanes → Lane → Type 0
IsTold lanes lane = (state : Stable) × (lanes lane.queue.0 ≡ Some state) × IsPlainLaneOf state lane
