use Rattle.qq_raft_core.proofs.Ranges.{all_more}
use Rattle.qq_raft_core.specs.Ends.{IsSendable}
use Rattle.qq_raft_core.proofs.raft.push_rpc.Goals as goal

pub returns-clause-out : goal.returns-clause-out
returns-clause-out c =
    all_more IsSendable c.args.out.now.items c.push_back.new.self.items c.args.rpc c.in_ok-push_back.ensures.items
    c.requires.out c.requires.rpc
