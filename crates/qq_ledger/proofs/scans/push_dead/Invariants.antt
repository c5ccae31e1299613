use Rattle.std.proofs.Common.{◌≡◌, ◌++◌, map, take}
use Rattle.qq_ledger.specs.Ledger.{dead_index}
use Rattle.qq_ledger.proofs.scans.push_dead.Given as goal

-- those so far
abbrev pub invariant-rows : goal.invariant-rows
invariant-rows l =
    l.indices.items ≡ l.initial.indices.items ++ map dead_index (take l.place l.dead.letters.rows)
