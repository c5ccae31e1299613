use Rattle.std.proofs.Common.{◌≡◌, ◌++◌, length}
use Rattle.qq_base.specs.Fronts.{IsFront}
use Rattle.qq_cluster_model.specs.Taking.{delivered, told_of, waiting_of}
use Rattle.qq_queue.proofs.handing_out.release.Given as goal

-- what still waits gives what all gave at first
abbrev pub invariant-plain : goal.invariant-plain
invariant-plain l = record {
  untold : waiting_of l.seats l.untold ≡ waiting_of l.seats l.fn.untold;
  said : l.shown.items ++ delivered (told_of l.seats l.untold)
      ≡ l.fn.shown.items ++ delivered (told_of l.seats l.fn.untold);
  front : IsFront l.fn.shown.items l.shown.items;
}

abbrev pub decreases-plain : goal.decreases-plain
decreases-plain l = length l.untold
