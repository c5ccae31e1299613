use Rattle.std.proofs.Common.{◌≡◌, ◌≤◌, ◌-◌, length, take, drop, Option}
use Rattle.std.specs.Prelude.{IfSome}
use Rattle.std.specs.List.{AllByRecursion}
use Rattle.qq_log.specs.declared.lane.Lane.{Lane}
use Rattle.qq_recover.specs.Recovered.{lanes_left, wal_of}
use Rattle.qq_recover.specs.State.{IsWithinEnds}
use Rattle.qq_node_log.specs.Found.{AreDistinct, AreLanes}
use Rattle.qq_node_log.proofs.Lanes.{AreLeft}
use Rattle.qq_node_log.proofs.recovering.take_lanes.Given as goal

-- the lanes of so many queues are taken, and those of the others are left
abbrev pub invariant-queues : goal.invariant-queues
invariant-queues g l =
    record {
      within : l.at ≤ length l.queues;
      apart : AreDistinct (drop l.at l.queues);
      left : AreLeft (lanes_left l.fn.recovered) (lanes_left l.recovered) (drop l.at l.queues);
      taken : AreLanes (take l.at l.queues) (lanes_left l.fn.recovered) l.lanes.items;
      ends : AllByRecursion (λ (lane : Option Lane). IfSome lane IsWithinEnds) l.lanes.items;
      wal : wal_of l.recovered ≡ wal_of l.fn.recovered;
    }

abbrev pub decreases-queues : goal.decreases-queues
decreases-queues g l = length l.queues - l.at
