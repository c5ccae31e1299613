use Rattle.std.proofs.Common.{◌≡◌, ◌≤◌, length, take}
use Rattle.std.specs.Prelude.{filter}
use Rattle.qq_doctor.specs.Lanes.{reaches}
use Rattle.qq_doctor.proofs.lanes.counts.Given as goal

-- those that reach it so far
abbrev pub invariant-lanes : goal.invariant-lanes
invariant-lanes l =
    record {
      within : l.count ≤ l.found-index;
      counted : l.count ≡ length (filter (reaches l.place) (take l.found-index l.lanes));
    }
