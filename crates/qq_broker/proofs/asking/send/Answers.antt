use Rattle.std.proofs.Common.{All, sym, subst}
use Rattle.qq_base.specs.declared.ids.QueueId.{QueueId}
use Rattle.qq_cluster.specs.Nodes.{IsQueueAt}
use Rattle.qq_route.specs.Destinations.{listed}
use Rattle.qq_broker.proofs.Asked.{sent, sent-in-vain}
use Rattle.qq_broker.proofs.GoingOn.{can-serve, targets-at}
use Rattle.qq_broker.proofs.asking.send.Goals as goal

pub send-requires-clause-serve : goal.send-requires-clause-serve
send-requires-clause-serve g c =
    let disk = g.D.NodeDisk in
    can-serve c.requires.holds.0 disk.facts c.args.setup.now c.args.nodes.now c.requires.holds.1.0 c.requires.holds.1.1

pub send-requires-clause-queues : goal.send-requires-clause-queues
send-requires-clause-queues g c =
    let disk = g.D.NodeDisk in
    subst (All (λ (queue : QueueId). IsQueueAt queue c.args.nodes.now)) (sym c.as_slice.ensures)
    (targets-at c.requires.holds.0 disk.facts c.args.setup.now c.requires.holds.1.0 c.args.nodes.now
    (listed c.in_ok-queues.queues) c.requires.holds.1.1 c.in_ok-queues.ensures.there)

pub returns-clause-ok : goal.returns-clause-ok
returns-clause-ok g c =
    let disk = g.D.NodeDisk in λ given.
    sent given disk.facts c.args.setup.now c.args.session c.args.exchange c.args.key c.args.body
    c.in_ok-command.command c.as_slice.result.now c.send.result c.args.nodes.now c.send.new.self
    c.args.told.now c.send.new.told c.in_ok-command.ensures.ok
    (rw c.as_slice.ensures c.in_ok-queues.ensures.ok)
    c.send.ensures.ok

pub returns-clause-cause : goal.returns-clause-cause
returns-clause-cause g c =
    let disk = g.D.NodeDisk in λ given.
    sent-in-vain given disk.facts c.args.setup.now c.args.session c.args.exchange c.args.key c.args.body
    c.in_ok-command.command c.as_slice.result.now c.send.result c.args.nodes.now c.send.new.self
    c.in_ok-command.ensures.ok (rw c.as_slice.ensures c.in_ok-queues.ensures.ok) c.send.ensures.err
