use Rattle.qq_broker.proofs.GoingOn.{can-serve, crashed, node-there}
use Rattle.qq_broker.proofs.serving.crash_one.Goals as goal

pub crash_node-requires-clause-serve : goal.crash_node-requires-clause-serve
crash_node-requires-clause-serve g c = λ lifetimes bounds.
    (let holds = c.requires.holds in
    can-serve holds.0 g.Y.Disk.NodeDisk.facts holds.1.0 c.args.nodes.now holds.1.1.0 holds.1.1.1)

pub crash_node-requires-clause-node : goal.crash_node-requires-clause-node
crash_node-requires-clause-node g c = λ lifetimes bounds.
    (let holds = c.requires.holds in
    node-there holds.0 g.Y.Disk.NodeDisk.facts holds.1.0 holds.1.1.0 c.args.nodes.now c.args.node
    holds.1.1.1 holds.1.1.2)

pub returns-in-Ok-clause-ok : goal.returns-in-Ok-clause-ok
returns-in-Ok-clause-ok g c = λ given s run h.
    crashed given g.Y.Disk.NodeDisk.facts s run c.args.nodes.now c.crash_node.new.nodes c.args.node.0 c.args.image.now h
    c.in-Ok.ensures.ok c.in-Ok.ensures.leaves
