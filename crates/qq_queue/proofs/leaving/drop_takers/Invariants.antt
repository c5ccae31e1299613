use Rattle.std.proofs.Common.{◌≡◌, ◌++◌, Some, length}
use Rattle.qq_base.specs.Fronts.{IsFront}
use Rattle.qq_cluster_model.specs.Taking.{dropped_by}
use Rattle.qq_taker.specs.Seats.{staying}
use Rattle.qq_queue.proofs.leaving.drop_takers.Given as goal

-- those who still have one give what all gave at first
abbrev pub invariant-seats : goal.invariant-seats
invariant-seats l = record {
  seats : staying l.whom l.seats ≡ staying l.whom l.fn.seats;
  said : l.shown.items ++ dropped_by (Some l.whom) l.seats
      ≡ l.fn.shown.items ++ dropped_by (Some l.whom) l.fn.seats;
  front : IsFront l.fn.shown.items l.shown.items;
}

abbrev pub decreases-seats : goal.decreases-seats
decreases-seats l = length l.seats
