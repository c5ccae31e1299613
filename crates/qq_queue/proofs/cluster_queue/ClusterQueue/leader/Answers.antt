use Rattle.std.proofs.Common.{sym, ap, ◌∙◌}
use Rattle.qq_queue.specs.Members.{number_of}
use Rattle.qq_queue.proofs.Offering.{leader-is}
use Rattle.qq_queue.proofs.cluster_queue.ClusterQueue.leader.Goals as goal

pub returns : goal.returns
returns c = λ sessions q st.
    leader-is q.group c.args.self.now.group st.group.represents ∙ ap number_of (sym c.leader.ensures)
