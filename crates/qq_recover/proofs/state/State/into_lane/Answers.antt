use Rattle.std.proofs.Common.{refl}
use Rattle.qq_recover.proofs.States.{lane-within}
use Rattle.qq_recover.proofs.state.State.into_lane.Goals as goal

pub returns-clause-ends : goal.returns-clause-ends
returns-clause-ends c =
    lane-within c.self.inside.op c.self.inside.term c.self.inside.vote c.self.inside.base c.self.inside.snapshot
    c.self.inside.entries.items c.self.invariant _ refl refl refl refl c.from_vec.ensures
