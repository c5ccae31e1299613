-- What a log has of each queue: where its ops end, so that the next ones go on there.
use Rattle.std.specs.Prelude.{◌≡◌, ◌+◌, ℕ, List, length, Option, Some, None, option_map}
use Rattle.std.specs.List.{AllByRecursion}
use Rattle.qq_base.specs.declared.ids.QueueId.{QueueId}
use Rattle.qq_log.specs.Carries.{Carries, carry_or_new}
use Rattle.qq_log.specs.declared.lane.Carry.{Carry}
use Rattle.qq_log.specs.declared.lane.Lane.{Lane}
use Rattle.qq_log.specs.declared.op.Op.{Op}
use Rattle.qq_log.specs.Stable.{Stable, last_index, new_state, stable}
use Rattle.qq_lots.specs.Lots.{Lot, Parts}

-- the number of a queue's last op, the index of its base, and that of its last entry
pub record End : Type 0 where
  pub op : ℕ
  pub base : ℕ
  pub last : ℕ

abbrev pub end_of : Stable → End
end_of s = record { op = s.op; base = s.base.index.0; last = last_index s }

abbrev pub carry_end : Carry → End
carry_end c = record { op = c.op; base = c.base.index.0; last = c.last.0 }

-- a queue without ops has no lane
abbrev pub lane_end : Option Lane → End
lane_end None = end_of new_state
lane_end (Some lane) =
    record { op = lane.op; base = lane.base.index.0; last = lane.base.index.0 + length lane.entries }

-- where ops end, None where one of them isn't sound
abbrev pub ends : List Op → Option End
ends ops = option_map end_of (stable ops)

-- a queue's carry tells where its ops end; before the first it is a new queue's
abbrev pub IsCarryOf : QueueId → Carries → List Op → Type 0
IsCarryOf id carries ops = ends ops ≡ Some (carry_end (carry_or_new (carries id.0) id))

-- and so of each queue of a lot
abbrev pub CarriesAre : Lot → Parts → Carries → Type 0
CarriesAre lot parts carries =
    AllByRecursion (λ (place : ℕ). IsCarryOf (lot.id place) carries (parts place).ops) lot.places
