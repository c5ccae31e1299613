use Rattle.std.proofs.Common.{◌∙◌, sym, ap}
use Rattle.qq_cluster_run.specs.Drilling.{is_led}
use Rattle.qq_cluster_run.specs.Serving.{cluster_in, setup_in}
use Rattle.qq_cluster_run.specs.declared.drilling.Part.{Part}
use Rattle.qq_broker.proofs.GoingOn.{can-serve, queue-there}
use Rattle.qq_broker.proofs.drilling.is_led.Goals as goal

pub has_leader-requires-clause-serve : goal.has_leader-requires-clause-serve
has_leader-requires-clause-serve g c =
    can-serve c.requires.0 g.D.NodeDisk.facts c.args.setup.now c.args.nodes.now c.requires.1.0 c.requires.1.1

pub has_leader-requires-clause-queue : goal.has_leader-requires-clause-queue
has_leader-requires-clause-queue g c =
    queue-there c.requires.0 g.D.NodeDisk.facts c.args.setup.now c.requires.1.0 c.args.nodes.now c.in-Elect.queue
    c.requires.1.1 (c.is_place.ensures c.if-not-is_place.false)

pub returns-else-not-is_place : goal.returns-else-not-is_place
returns-else-not-is_place g c = λ given run h.
    c.has_leader.ensures (setup_in c.args.setup.now run) (cluster_in c.args.setup.now run) h.stands
    ∙ sym (ap (λ (p : Part). is_led p (cluster_in c.args.setup.now run)) c.in-Elect.is)
