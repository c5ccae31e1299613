use Rattle.std.proofs.Common.{◌≡◌, ◌++◌, drop}
use Rattle.qq_model.specs.Audit.{stays_within}
use Rattle.qq_serial.specs.Replay.{replay}
use Rattle.qq_serial.proofs.run.replay_on.Given as goal

-- what was given so far goes before what the rest gives, and the rest alone decides whether a number
-- passes its end
abbrev pub invariant-entries : goal.invariant-entries
invariant-entries l = record {
  prefix : l.applied ++ replay l.serial (drop l.entry-index l.entries) ≡ replay l.initial.serial l.entries;
  within : stays_within l.serial (drop l.entry-index l.entries) ≡ stays_within l.initial.serial l.entries;
}
