use Rattle.std.proofs.Common.{◌≡◌, ◌≤◌, ◌<◌, ℕ}
use Rattle.std.specs.List.{AllByRecursion}
use Rattle.qq_base.specs.declared.memory.TheConstants.{NUMBER_END}
use Rattle.qq_consuming.specs.Consuming.{first_missing, missing}
use Rattle.qq_consuming.proofs.consuming.Consuming.first_missing.Given as goal

abbrev pub invariant-loop-key : goal.invariant-loop-key
invariant-loop-key l =
    record {
      same : first_missing l.id l.key-iterator ≡ missing l.self;
      within : l.id ≤ NUMBER_END;
      below : AllByRecursion (λ (k : ℕ). k < NUMBER_END) l.key-iterator;
    }
