use Rattle.std.specs.VecDeque.{deque_capacity}
use Rattle.qq_undo.specs.Undo.{held}
use Rattle.qq_undo.proofs.Undoing.{Leads}
use Rattle.qq_undo.proofs.deque.undo_all.Given as goal

-- what is left of the journal leads to what all of it led to
abbrev pub invariant-steps : goal.invariant-steps
invariant-steps g l =
    Leads l.fn.journal.items (held l.fn.items.items (deque_capacity l.fn.items)) l.journal.items
    (held l.items.items (deque_capacity l.items))

abbrev pub decreases-steps : goal.decreases-steps
decreases-steps g l = goal.left-steps g l
