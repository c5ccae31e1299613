use Rattle.std.proofs.Common.{◌≡◌, ◌≤◌, drop}
use Rattle.std.specs.VecDeque.{deque_len, deque_capacity}
use Rattle.qq_sessions.proofs.row.drop_front.Given as goal

-- as many are gone as the loop has come
abbrev pub invariant-loop : goal.invariant-loop
invariant-loop l = record {
  items : l.kept.items ≡ drop l.counter l.fn.kept.items;
  len : deque_len l.kept ≤ deque_len l.fn.kept;
  capacity : deque_capacity l.kept ≡ deque_capacity l.fn.kept;
}
