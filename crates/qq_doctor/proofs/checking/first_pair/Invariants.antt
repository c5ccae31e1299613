use Rattle.std.proofs.Common.{ℕ, ◌<◌}
use Rattle.qq_doctor.specs.Lanes.{DifferAmong}
use Rattle.qq_doctor.proofs.checking.first_pair.Given as goal

-- no pair that begins with one of those so far differs
abbrev pub invariant-lanes : goal.invariant-lanes
invariant-lanes l = (first second : ℕ) → first < second → first < l.i → DifferAmong l.place l.lanes first second → ⊥
