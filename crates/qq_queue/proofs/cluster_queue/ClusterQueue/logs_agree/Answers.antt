use Rattle.std.proofs.Common.{List, subst}
use Rattle.std.specs.Bool.{Decides}
use Rattle.qq_base.specs.declared.ids.NodeId.{NodeId}
use Rattle.qq_agree.specs.Support.{HaveAll, SupportAudit}
use Rattle.qq_queue.specs.Agreeing.{lane_of}
use Rattle.qq_queue.proofs.Agrees.{agrees, refuses}
use Rattle.qq_queue.proofs.cluster_queue.ClusterQueue.logs_agree.Goals as goal

pub returns-clause-agree : goal.returns-clause-agree
returns-clause-agree c =
    let lane = lane_of c.args.self.now in
    agrees c.args.self.now c.support_audit.result
    (subst (λ (nodes : List NodeId). HaveAll nodes lane → Decides c.support_audit.result (SupportAudit nodes lane))
    c.members.ensures c.support_audit.ensures)

pub returns-clause-refuse : goal.returns-clause-refuse
returns-clause-refuse c =
    let lane = lane_of c.args.self.now in
    refuses c.args.self.now c.support_audit.result
    (subst (λ (nodes : List NodeId). HaveAll nodes lane → Decides c.support_audit.result (SupportAudit nodes lane))
    c.members.ensures c.support_audit.ensures)
