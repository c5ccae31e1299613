use Rattle.std.proofs.Common.{inr, ◌∙◌}
use Rattle.qq_raft_core.proofs.raft.Raft.tick.Goals as goal

pub returns-in-Err-clause-back : goal.returns-in-Err-clause-back
returns-in-Err-clause-back g c =
    inr (c.clear.ensures.before ∙ c.try_tick.ensures.before ∙ c.begin.ensures.before)

pub returns-clause-back : goal.returns-clause-back
returns-clause-back g c = inr (c.try_tick.ensures.before ∙ c.begin.ensures.before)
