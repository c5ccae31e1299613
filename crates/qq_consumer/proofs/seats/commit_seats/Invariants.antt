use Rattle.std.proofs.Common.{◌≡◌}
use Rattle.std.specs.List.{AllByRecursion}
use Rattle.std.specs.VecDeque.{deque_len}
use Rattle.indexmap.specs.IndexMap.{spare}
use Rattle.qq_consumer.specs.Joined.{AreJoined, IsTracked, ones_of}
use Rattle.qq_consumer.proofs.seats.commit_seats.Given as goal

abbrev pub invariant-touched : goal.invariant-touched
invariant-touched l =
    (ones_of l.rows.entries ≡ ones_of l.fn.rows.entries) × AreJoined l.rows.entries
    × AllByRecursion (IsTracked l.touched.items) l.rows.entries × (spare l.rows ≡ spare l.fn.rows)

abbrev pub decreases-touched : goal.decreases-touched
decreases-touched l = deque_len l.touched
