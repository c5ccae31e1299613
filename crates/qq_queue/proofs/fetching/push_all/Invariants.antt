use Rattle.std.proofs.Common.{◌≡◌, ◌++◌, length, map}
use Rattle.qq_entry.specs.declared.audit.Effect.TheVariants.{Deliver}
use Rattle.qq_queue.proofs.fetching.push_all.Given as goal

-- what is left goes behind what is there
abbrev pub invariant-deliveries : goal.invariant-deliveries
invariant-deliveries l =
    l.effects.items ++ map (Deliver l.consumer) l.rest.items
    ≡ l.fn.effects.items ++ map (Deliver l.consumer) l.initial.rest.items

abbrev pub decreases-deliveries : goal.decreases-deliveries
decreases-deliveries l = length l.rest.items
