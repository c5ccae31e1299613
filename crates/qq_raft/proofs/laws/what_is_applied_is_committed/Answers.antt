use Rattle.std.proofs.Common.{ap, arith}
use Rattle.qq_raft_model.specs.Server.{receive as receive_raft, notice as notice_raft}
use Rattle.qq_raft_model.specs.State.{Server as Raft}
use Rattle.qq_raft.proofs.Entries.{applied-within, commit-kept}
use Rattle.qq_raft.proofs.Rises.{receive-rises, notice-rises}
use Rattle.qq_raft.specs.Step.{with_raft}
use Rattle.qq_raft.proofs.laws.what_is_applied_is_committed.Goals as goal

pub returns-clause-receive : goal.returns-clause-receive
returns-clause-receive g c = λ s rpc le.
    applied-within g.Q.Queue.step (with_raft (receive_raft rpc s.raft) s) (omega (arith, le, receive-rises rpc s.raft))

pub returns-clause-notice : goal.returns-clause-notice
returns-clause-notice g c = λ s op le.
    applied-within g.Q.Queue.step (with_raft (notice_raft op s.raft) s) (omega (arith, le, notice-rises op s.raft))

pub returns-clause-rises : goal.returns-clause-rises
returns-clause-rises g c = λ s rpc.
    let kept = ap (λ (r : Raft). r.commit)
    (commit-kept g.Q.Queue.step (with_raft (receive_raft rpc s.raft) s)) in
    omega (arith, kept, receive-rises rpc s.raft)
