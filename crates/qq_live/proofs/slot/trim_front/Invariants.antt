use Rattle.std.proofs.Common.{◌≡◌, ◌≤◌}
use Rattle.std.specs.VecDeque.{deque_len, deque_capacity}
use Rattle.qq_live.specs.Slots.{Trims}
use Rattle.qq_live.proofs.slot.trim_front.Given as goal

-- the held ones are those of before
abbrev pub invariant-free : goal.invariant-free
invariant-free l =
    Trims l.initial.slots.items l.slots.items × (deque_len l.slots ≤ deque_len l.initial.slots)
    × (deque_capacity l.slots ≡ deque_capacity l.initial.slots)

abbrev pub decreases-free : goal.decreases-free
decreases-free l = deque_len l.slots
