use Rattle.std.proofs.Common.{ap, ◌∙◌}
use Rattle.qq_queue.specs.Members.{number_of}
use Rattle.qq_queue.proofs.Happening.{receiver-at}
use Rattle.qq_queue.proofs.cluster_queue.ClusterQueue.receiver.Goals as goal

pub returns : goal.returns
returns c = λ sessions q st.
    ap number_of c.receiver.ensures
    ∙ receiver-at q.group c.args.self.now.group c.args.place st.group.represents c.requires
