use Rattle.std.proofs.Common.{subst, sym}
use Rattle.qq_raft_core.specs.Undone.{LeadsBack}
use Rattle.qq_raft.proofs.server.Server.notice.Goals as goal

pub returns-in-Err-clause-back : goal.returns-in-Err-clause-back
returns-in-Err-clause-back g c =
    subst (LeadsBack g.L.LogView.log c.args.self.now.raft) (sym c.clear.ensures.same) c.try_notice.ensures.back
