use Rattle.std.proofs.Common.{◌≡◌, ◌++◌, take}
use Rattle.qq_ledger.specs.Ledger.{out_indices}
use Rattle.qq_ledger.proofs.scans.push_consumers.Given as goal

-- what is out with the consumers so far
abbrev pub invariant-consumers : goal.invariant-consumers
invariant-consumers l =
    l.indices.items ≡ l.initial.indices.items ++ out_indices (take l.place l.consumers.roster.served)
