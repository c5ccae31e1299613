use Rattle.std.proofs.Common.{arith}
use Rattle.qq_recover.proofs.States.{op-within}
use Rattle.qq_recover.proofs.state.State.next.Goals as goal

pub overflow_add-result : goal.overflow_add-result
overflow_add-result c =
    omega (
      arith,
      op-within c.self.inside.op c.self.inside.term c.self.inside.vote c.self.inside.base c.self.inside.snapshot
          c.self.inside.entries.items c.self.invariant,
    )
