use Rattle.std.proofs.Common.{subst, sym}
use Rattle.qq_raft_core.specs.Undone.{LeadsBack}
use Rattle.std.proofs.lemmas.Result.{err_from_is_err_and}
use Rattle.qq_raft_model.specs.Server.{receive as receive_raft}
use Rattle.qq_raft.specs.Stands.{state_of}
use Rattle.qq_raft.proofs.Entries.{does-after, cause-after, cause-before}
use Rattle.qq_raft.proofs.server.Server.try_receive.Goals as goal

pub returns-in_err-receive-clause-cause : goal.returns-in_err-receive-clause-cause
returns-in_err-receive-clause-cause g c =
    let p = err_from_is_err_and c.from_residual.result c.from_residual.ensures.1 in
    rw (p.1, p.2) (λ queue f.
    cause-before g.Q.Queue.step g.Q.Queue.passes_end (receive_raft c.args.rpc) (state_of g.L.LogView.log queue c.args.self.now) _
    c.in_err-receive.ensures.cause)

pub returns-in-Err-clause-cause : goal.returns-in-Err-clause-cause
returns-in-Err-clause-cause g c = λ queue f.
    cause-after g.Q.Queue.stands g.L.LogView.log g.Q.Queue.step g.Q.Queue.passes_end (receive_raft c.args.rpc) c.args.self.now
    c.receive.new.self c.in-Err.cause queue c.in_ok-receive.ensures.ok (c.in-Err.ensures.cause queue f)

pub returns-clause-ok : goal.returns-clause-ok
returns-clause-ok g c =
    does-after g.Q.Queue.stands g.L.LogView.log g.Q.Queue.step (receive_raft c.args.rpc) c.args.self.now c.receive.new.self
    c.apply_committed.new.self c.in_ok-receive.ensures.ok c.in_default.ensures.ok

pub returns-in-Err-clause-back : goal.returns-in-Err-clause-back
returns-in-Err-clause-back g c =
    subst (LeadsBack g.L.LogView.log c.args.self.now.raft) (sym c.apply_committed.ensures.raft) c.receive.ensures.back

pub returns-clause-back : goal.returns-clause-back
returns-clause-back g c =
    subst (LeadsBack g.L.LogView.log c.args.self.now.raft) (sym c.apply_committed.ensures.raft) c.receive.ensures.back
