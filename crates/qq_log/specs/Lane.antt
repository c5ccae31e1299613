-- Lanes: what recovery hands out of a queue.
use Rattle.std.specs.Prelude.{◌≡◌, [], map, filter, Some, None}
use Rattle.qq_base.specs.declared.ids.QueueId.{QueueId}
use Rattle.qq_log.specs.declared.lane.Lane.{Lane}
use Rattle.qq_log.specs.Stable.{Stable, no_snapshot}

-- the lane of a queue without ops
abbrev pub empty : QueueId → Lane
empty queue =
    record {
      queue = queue;
      op = 0;
      term = record { 0 = 0 };
      vote = None;
      base = no_snapshot;
      shadow = None;
      entries = [];
      places = [];
    }

-- the lane tells the state, and all of its entries
pub record IsLaneOf (s : Stable) (lane : Lane) : Type 0 where
  pub op : lane.op ≡ s.op
  pub term : lane.term ≡ s.term
  pub vote : lane.vote ≡ s.vote
  pub base : lane.base ≡ s.base
  pub entries : map Some lane.entries ≡ s.log
  pub segments : filter (λ span. span.segment) lane.places ≡ s.segments
