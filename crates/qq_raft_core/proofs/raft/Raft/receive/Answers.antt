use Rattle.std.proofs.Common.{inr, ◌∙◌}
use Rattle.qq_raft_core.specs.Raft.{server_of}
use Rattle.qq_raft_core.proofs.Fitting.{fits-within}
use Rattle.qq_raft_core.proofs.raft.Raft.receive.Goals as goal

pub try_receive-requires-clause-within : goal.try_receive-requires-clause-within
try_receive-requires-clause-within g c =
    fits-within (server_of g.L.LogView.log c.args.self.now) c.args.rpc c.requires.rpc c.requires.fits

pub returns-in-Err-clause-back : goal.returns-in-Err-clause-back
returns-in-Err-clause-back g c =
    inr (c.clear.ensures.before ∙ c.try_receive.ensures.before ∙ c.begin.ensures.before)

pub returns-clause-back : goal.returns-clause-back
returns-clause-back g c = inr (c.try_receive.ensures.before ∙ c.begin.ensures.before)
