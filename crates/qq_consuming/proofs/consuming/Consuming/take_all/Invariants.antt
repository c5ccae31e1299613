use Rattle.std.proofs.Common.{◌≤◌, ◌+◌, ◌-◌, length}
use Rattle.std.specs.Prelude.{vec_capacity, vec_len}
use Rattle.qq_consuming.proofs.HandingLemmas.{Handing}
use Rattle.qq_consuming.proofs.consuming.Consuming.take_all.Given as goal

-- some was handed out, and what waits has room
abbrev pub invariant-asks : goal.invariant-asks
invariant-asks l =
    record {
      handing : Handing (l.count - l.asked) l.count l.fn.self l.self l.fn.out.items l.out.items;
      room : vec_len l.out + length l.self.waiting ≤ vec_capacity l.out;
    }
