use Rattle.std.proofs.Common.{◌≡◌, ◌++◌, map}
use Rattle.std.specs.VecDeque.{deque_len}
use Rattle.qq_consumer.specs.Roster.{served_of}
use Rattle.qq_consumer.proofs.consumers.Consumers.from_parts.Given as goal

-- those so far and the rest are all
abbrev pub invariant-rows : goal.invariant-rows
invariant-rows l =
    (l.consumers.roster.served ++ map served_of l.rows.items ≡ map served_of l.fn.rows.items)
    × (l.consumers.roster.turns ≡ l.fn.turns)

abbrev pub decreases-rows : goal.decreases-rows
decreases-rows l = deque_len l.rows
