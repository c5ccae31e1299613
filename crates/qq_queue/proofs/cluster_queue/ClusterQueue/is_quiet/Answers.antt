use Rattle.std.proofs.Common.{sym, ◌∙◌}
use Rattle.qq_queue.proofs.cluster_queue.ClusterQueue.is_quiet.Goals as goal

pub returns : goal.returns
returns c = λ sessions q st. (
  λ quiet. c.an_idle_group_has_nothing_open.ensures.idle q.group c.args.self.now.group st.group.reached
      st.group.represents (sym c.idle.ensures ∙ quiet),
  λ idle. c.idle.ensures ∙ c.an_idle_group_has_nothing_open.ensures.settled q.group c.args.self.now.group
      st.group.reached st.group.represents idle,
)
