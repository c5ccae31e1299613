use Rattle.std.proofs.Common.{refl}
use Rattle.std.proofs.lemmas.Result.{IfErr-weaker, on_ok_weaker}
use Rattle.qq_queue.specs.Events.{event_of}
use Rattle.qq_cluster.proofs.OneQueue.{event-unseen, served-at}
use Rattle.qq_cluster.proofs.Items.{queues-sound}
use Rattle.qq_cluster.proofs.Refused.{gave_up-refused}
use Rattle.qq_cluster.proofs.nodes.Nodes.happen_active.Goals as goal

pub happen_in-requires-clause-sound : goal.happen_in-requires-clause-sound
happen_in-requires-clause-sound g c = queues-sound c.requires.serve

pub returns-clause-ok : goal.returns-clause-ok
returns-clause-ok g c =
    on_ok_weaker c.happen_in.result
    (λ does. served-at (event_of c.args.event) c.args.at c.args.self.now
    (record c.args.self.now { queues = c.happen_in.new.queues }) c.args.told.now c.happen_in.new.told
    (event-unseen c.args.event) c.requires.active refl does) c.happen_in.ensures.ok

pub returns-clause-err : goal.returns-clause-err
returns-clause-err g c =
    IfErr-weaker c.happen_in.result _ _
    (λ memory refused. gave_up-refused c.a_refusal_tells_an_end.ensures c.args.at c.args.event c.args.self.now
    (record c.args.self.now { queues = c.happen_in.new.queues }) memory refl refused) c.happen_in.ensures.cause
