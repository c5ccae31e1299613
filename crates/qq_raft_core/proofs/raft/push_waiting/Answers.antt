use Rattle.qq_raft_core.proofs.Ranges.{all_more}
use Rattle.qq_raft_core.specs.Raft.{IsWaiting}
use Rattle.qq_raft_core.proofs.raft.push_waiting.Goals as goal

pub returns-clause-waiting : goal.returns-clause-waiting
returns-clause-waiting c =
    all_more IsWaiting c.args.waiting.now.items c.push_back.new.self.items (record { op = c.args.op; rpc = c.args.rpc })
    c.in_ok-push_back.ensures.items c.requires.waiting c.requires.rpc
