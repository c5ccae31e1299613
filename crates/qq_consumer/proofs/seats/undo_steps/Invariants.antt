use Rattle.std.proofs.Common.{◌≡◌, ◌≤◌, List}
use Rattle.std.specs.Prelude.{length}
use Rattle.std.specs.List.{AllByRecursion}
use Rattle.std.specs.VecDeque.{deque_len}
use Rattle.indexmap.specs.IndexMap.{spare}
use Rattle.qq_base.specs.declared.ids.ConsumerId.{ConsumerId}
use Rattle.qq_consumer.specs.Joined.{AreJoined, CanUndo, IsTracked, bases_of, base_one, base_id, seen, undone}
use Rattle.qq_consumer.proofs.seats.undo_steps.Given as goal

-- what is left of the journal leads to where all of it does
abbrev pub invariant-steps : goal.invariant-steps
invariant-steps l =
    (undone base_one l.journal.items (bases_of l.rows.entries)
    ≡ undone base_one l.fn.journal.items (bases_of l.fn.rows.entries))
    × AreJoined l.rows.entries × CanUndo l.journal.items (seen base_id l.rows.entries)
    × ((touched : List ConsumerId) → AllByRecursion (IsTracked touched) l.fn.rows.entries
    → AllByRecursion (IsTracked touched) l.rows.entries)
    × (length l.journal.items ≤ spare l.rows)

abbrev pub decreases-steps : goal.decreases-steps
decreases-steps l = deque_len l.journal
