use Rattle.std.proofs.Common.{◌≡◌, ◌++◌, drop}
use Rattle.qq_queue.specs.Fetching.{fetched_all}
use Rattle.qq_queue.proofs.fetching.fetch_all.Given as goal

-- what is left goes behind what is there
abbrev pub invariant-places : goal.invariant-places
invariant-places l =
    l.effects.items ++ fetched_all l.machine l.session (drop l.place l.consumers)
    ≡ fetched_all l.machine l.session l.consumers
