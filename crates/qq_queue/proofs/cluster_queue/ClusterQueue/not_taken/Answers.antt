use Rattle.std.proofs.Common.{List, sym, ap, ◌∙◌}
use Rattle.qq_base.specs.Ids.{client}
use Rattle.qq_base.specs.declared.ids.SessionId.{SessionId}
use Rattle.qq_consuming.specs.Consumers.{not_taken_of}
use Rattle.qq_consuming.specs.Consuming.{Received}
use Rattle.qq_queue.proofs.cluster_queue.ClusterQueue.not_taken.Goals as goal

pub returns : goal.returns
returns c = λ sessions q st.
    c.not_taken.ensures
    ∙ ap (λ (s : SessionId). not_taken_of s c.args.body.now c.args.self.now.consumers) c.client.ensures
    ∙ ap (λ (all : List Received). not_taken_of (client c.args.session) c.args.body.now all) (sym st.consumers)
