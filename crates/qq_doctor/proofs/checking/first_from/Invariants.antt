use Rattle.std.proofs.Common.{ℕ, ◌<◌}
use Rattle.qq_doctor.specs.Lanes.{DifferAmong}
use Rattle.qq_doctor.proofs.checking.first_from.Given as goal

-- none of those so far differs from it
abbrev pub invariant-others : goal.invariant-others
invariant-others l = (other : ℕ) → l.i < other → other < l.j → DifferAmong l.place l.lanes l.i other → ⊥
