use Rattle.std.proofs.Common.{◌≡◌, ◌++◌, map, take}
use Rattle.qq_ready.specs.Queue.{in_order}
use Rattle.qq_ledger.specs.Ledger.{keyed_index}
use Rattle.qq_ledger.proofs.scans.push_ready.Given as goal

-- those so far
abbrev pub invariant-rows : goal.invariant-rows
invariant-rows l =
    l.indices.items ≡ l.initial.indices.items ++ map keyed_index (take l.place (in_order l.ready.queue))
