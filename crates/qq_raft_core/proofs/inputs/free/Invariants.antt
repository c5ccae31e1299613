use Rattle.std.proofs.Common.{◌≡◌, ◌+◌, ◌++◌, length}
use Rattle.qq_raft_model.specs.Server.{free, still_waiting}
use Rattle.std.specs.Prelude.{All}
use Rattle.qq_raft_core.specs.Ends.{IsSendable}
use Rattle.qq_raft_core.specs.Raft.{IsWaiting}
use Rattle.qq_raft_core.proofs.inputs.free.Given as goal

-- those at the front have left
abbrev pub invariant-free : goal.invariant-free
invariant-free l = record {
  out : l.out.items ++ free l.op l.waiting.items ≡ l.fn.out.items ++ free l.op l.fn.waiting.items;
  waiting : still_waiting l.op l.waiting.items ≡ still_waiting l.op l.fn.waiting.items;
  length : length l.waiting.items + l.counter ≡ length l.fn.waiting.items;
  kept : All IsWaiting l.waiting.items;
  freed : All IsSendable l.out.items;
}
