use Rattle.std.proofs.Common.{◌≡◌, ◌+◌, ◌≤◌, drop}
use Rattle.std.specs.Prelude.{count_by}
use Rattle.qq_machine.specs.Reads.{is_current}
use Rattle.qq_machine.proofs.reads.current_count.Given as goal

-- those so far with those of the rest are all
abbrev pub invariant-consumers : goal.invariant-consumers
invariant-consumers l = record {
  all : l.count + count_by is_current (drop l.place l.consumers.roster.served)
      ≡ count_by is_current l.consumers.roster.served;
  within : l.count ≤ l.place;
}
