use Rattle.std.proofs.Common.{subst, sym}
use Rattle.qq_raft_core.specs.Undone.{LeadsBack}
use Rattle.std.proofs.lemmas.Result.{err_from_is_err_and}
use Rattle.qq_raft_model.specs.Server.{notice as notice_raft}
use Rattle.qq_raft.specs.Stands.{state_of}
use Rattle.qq_raft.proofs.Entries.{does-after, cause-after, cause-before}
use Rattle.qq_raft.proofs.server.Server.try_notice.Goals as goal

pub returns-in_err-notice-clause-cause : goal.returns-in_err-notice-clause-cause
returns-in_err-notice-clause-cause g c =
    let p = err_from_is_err_and c.from_residual.result c.from_residual.ensures.1 in
    rw (p.1, p.2) (λ queue f.
    cause-before g.Q.Queue.step g.Q.Queue.passes_end (notice_raft c.args.op) (state_of g.L.LogView.log queue c.args.self.now) _
    c.in_err-notice.ensures.cause)

pub returns-in-Err-clause-cause : goal.returns-in-Err-clause-cause
returns-in-Err-clause-cause g c = λ queue f.
    cause-after g.Q.Queue.stands g.L.LogView.log g.Q.Queue.step g.Q.Queue.passes_end (notice_raft c.args.op) c.args.self.now
    c.notice.new.self c.in-Err.cause queue c.in_ok-notice.ensures.ok (c.in-Err.ensures.cause queue f)

pub returns-clause-ok : goal.returns-clause-ok
returns-clause-ok g c =
    does-after g.Q.Queue.stands g.L.LogView.log g.Q.Queue.step (notice_raft c.args.op) c.args.self.now c.notice.new.self
    c.apply_committed.new.self c.in_ok-notice.ensures.ok c.in_default.ensures.ok

pub returns-in-Err-clause-back : goal.returns-in-Err-clause-back
returns-in-Err-clause-back g c =
    subst (LeadsBack g.L.LogView.log c.args.self.now.raft) (sym c.apply_committed.ensures.raft) c.notice.ensures.back

pub returns-clause-back : goal.returns-clause-back
returns-clause-back g c =
    subst (LeadsBack g.L.LogView.log c.args.self.now.raft) (sym c.apply_committed.ensures.raft) c.notice.ensures.back
