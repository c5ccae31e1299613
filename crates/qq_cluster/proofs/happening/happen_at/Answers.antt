use Rattle.std.proofs.lemmas.Result.{IfErr-weaker, on_ok_weaker}
use Rattle.qq_queue.specs.Sessions.{standings}
use Rattle.qq_queue.specs.Events.{event_of}
use Rattle.qq_cluster.proofs.OneQueue.{does-at}
use Rattle.qq_cluster.proofs.Refused.{refused-or}
use Rattle.qq_cluster.proofs.happening.happen_at.Goals as goal

pub returns-clause-ok : goal.returns-clause-ok
returns-clause-ok g c =
    on_ok_weaker c.happen_told.result
    (λ does. does-at (event_of c.args.event) (standings c.args.sessions.now) c.args.at c.args.queues.now _
    c.happen_told.new.queue c.args.told.now c.happen_told.new.told c.requires.place c.happen_told.ensures.sound
    c.happen_told.ensures.same does) c.happen_told.ensures.ok

pub returns-clause-cause : goal.returns-clause-cause
returns-clause-cause g c =
    IfErr-weaker c.happen_told.result _ _
    (λ memory caused. refused-or c.args.event c.args.at c.args.queues.now _ memory c.requires.place caused)
    c.happen_told.ensures.cause
