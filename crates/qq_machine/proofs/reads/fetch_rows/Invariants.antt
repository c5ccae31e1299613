use Rattle.std.proofs.Common.{◌≡◌, ◌++◌, drop}
use Rattle.qq_machine.specs.Reads.{fetched_rows}
use Rattle.qq_machine.proofs.reads.fetch_rows.Given as goal

-- those so far with those of the rest are all
abbrev pub invariant-out : goal.invariant-out
invariant-out l =
    l.found.items ++ fetched_rows l.from (drop l.place l.out.items) ≡ fetched_rows l.from l.out.items
