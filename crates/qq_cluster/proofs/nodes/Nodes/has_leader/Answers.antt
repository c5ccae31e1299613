use Rattle.std.proofs.Common.{◌≡◌, ◌-◌, ℕ, Option, ap, sym, ◌∙◌, arith}
use Rattle.std.specs.Prelude.{is_some}
use Rattle.qq_cluster_model.specs.Queue.{leader}
use Rattle.qq_queue.specs.Members.{number_of}
use Rattle.qq_cluster.proofs.Items.{item-here}
use Rattle.qq_cluster.proofs.LineRules.{queue-index}
use Rattle.qq_cluster.proofs.Shown.{some-number, told-at}
use Rattle.qq_cluster.proofs.nodes.Nodes.has_leader.Goals as goal

pub index-requires : goal.index-requires
index-requires g c = omega (arith, c.requires.queue.0, c.requires.queue.1)

pub leader-requires : goal.leader-requires
leader-requires g c =
    (c.requires.serve.3.queues (c.args.queue.0 - 1) _
    (item-here c.args.self.now.queues.items (c.args.queue.0 - 1) _
    (queue-index c.args.self.now c.args.queue c.requires.queue) c.index.ensures)).sound

pub returns : goal.returns
returns g c = λ setup d st.
    c.is_some.ensures ∙ sym (some-number c.leader.result)
    ∙ ap (λ (o : Option ℕ). is_some o)
    (sym (told-at (λ q. leader q.group ≡ number_of c.leader.result) c.args.self.now c.args.queue _ c.requires.queue
    (item-here c.args.self.now.queues.items (c.args.queue.0 - 1) _
    (queue-index c.args.self.now c.args.queue c.requires.queue) c.index.ensures) c.leader.ensures setup d st))
