use Rattle.std.proofs.Common.{ℕ, ◌≤◌}
use Rattle.qq_doctor.specs.Verdicts.{IsAgreed}
use Rattle.qq_doctor.proofs.checking.check.Given as goal

-- the places so far count, and no two lanes differ there
abbrev pub invariant-places : goal.invariant-places
invariant-places l = (place : ℕ) → 1 ≤ place → place ≤ l.upto → IsAgreed l.members l.lanes place
