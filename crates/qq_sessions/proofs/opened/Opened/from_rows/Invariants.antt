use Rattle.std.proofs.Common.{◌≡◌, ◌++◌, None, map}
use Rattle.std.specs.VecDeque.{deque_len}
use Rattle.qq_sessions.specs.Row.{open_of}
use Rattle.qq_sessions.proofs.opened.Opened.from_rows.Given as goal

-- those so far and the rest are all, and there is room for none
abbrev pub invariant-rows : goal.invariant-rows
invariant-rows l =
    (l.opened.rows ++ map open_of l.rows.items ≡ map open_of l.fn.rows.items) × (l.opened.room ≡ None)

abbrev pub decreases-rows : goal.decreases-rows
decreases-rows l = deque_len l.rows
