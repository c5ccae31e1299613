use Rattle.std.proofs.Common.{ap, ◌∙◌, subst, List}
use Rattle.std.specs.Prelude.{Bool, Contains, IsTrue}
use Rattle.qq_base.specs.declared.ids.NodeId.{NodeId}
use Rattle.qq_route.specs.declared.queue_row.QueueRow.{QueueRow}
use Rattle.qq_cluster_run.specs.Setup.{members_by, row_at}
use Rattle.qq_cluster_run.proofs.Checked.{member-there}
use Rattle.qq_cluster_run.proofs.checking.is_served.Goals as goal

pub returns-in-Some : goal.returns-in-Some
returns-in-Some c =
    λ is. subst (λ (l : List NodeId). Contains l c.args.node)
    (c.as_slice-in-Some.ensures
    ∙ ap members_by (c.in-Some.ensures ∙ ap (λ (l : List QueueRow). row_at l c.args.queue.0) c.as_slice.ensures))
    (member-there c.args.node _ (subst (λ (b : Bool). IsTrue b) c.has_node.ensures is))
