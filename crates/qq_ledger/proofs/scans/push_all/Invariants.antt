use Rattle.std.proofs.Common.{◌≡◌, ◌++◌, map, take}
use Rattle.qq_ledger.specs.Ledger.{message_index}
use Rattle.qq_ledger.proofs.scans.push_all.Given as goal

-- those so far
abbrev pub invariant-rows : goal.invariant-rows
invariant-rows l = l.indices.items ≡ l.initial.indices.items ++ map message_index (take l.place l.rows.items)
