use Rattle.std.proofs.Common.{◌≡◌, ◌++◌, map, take}
use Rattle.qq_ledger.specs.Ledger.{numbered_index}
use Rattle.qq_ledger.proofs.scans.push_out.Given as goal

-- those so far
abbrev pub invariant-out : goal.invariant-out
invariant-out l = l.indices.items ≡ l.initial.indices.items ++ map numbered_index (take l.place l.out.items)
