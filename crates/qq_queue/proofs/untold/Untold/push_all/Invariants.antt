use Rattle.std.proofs.Common.{◌≡◌, ◌++◌, length, map}
use Rattle.qq_queue.specs.Waiting.{handed_to}
use Rattle.qq_queue.proofs.untold.Untold.push_all.Given as goal

-- what is left goes behind what waits
abbrev pub invariant-deliveries : goal.invariant-deliveries
invariant-deliveries l =
    l.self-inside.rows.items ++ map (handed_to l.consumer) l.rest.items
    ≡ l.initial.self-inside.rows.items ++ map (handed_to l.consumer) l.initial.rest.items

abbrev pub decreases-deliveries : goal.decreases-deliveries
decreases-deliveries l = length l.rest.items
