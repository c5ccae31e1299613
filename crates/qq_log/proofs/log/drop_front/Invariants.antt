use Rattle.std.proofs.Common.{◌≡◌, drop}
use Rattle.std.specs.VecDeque.{deque_capacity}
use Rattle.qq_log.proofs.log.drop_front.Given as goal

-- as many are gone as the loop has come
abbrev pub invariant-loop : goal.invariant-loop
invariant-loop l = record {
  items : l.entries.items ≡ drop l.counter l.fn.entries.items;
  capacity : deque_capacity l.entries ≡ deque_capacity l.fn.entries;
}
