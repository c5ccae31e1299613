use Rattle.std.proofs.Common.{arith}
use Rattle.qq_cluster.proofs.Items.{queues-sound}
use Rattle.qq_cluster.proofs.Pumping.{node-of}
use Rattle.qq_cluster.proofs.Stopped.{stopped-all, stopped-can, stopped-more, stopped-none}
use Rattle.qq_cluster.proofs.nodes.Nodes.stop_each.Goals as goal

pub nodes-init : goal.nodes-init
nodes-init g c = stopped-none c.args.self.now

pub node_id-node-requires : goal.node_id-node-requires
node_id-node-requires g c =
    let many = c.nodes.invariant.count in
    let count = c.len-count.ensures in
    let whole = c.args.self.now.nodes.ok.0 in
    omega (arith, many, count, whole)

pub stop-requires-clause-node : goal.stop-requires-clause-node
stop-requires-clause-node g c =
    let many = c.nodes.invariant.count in
    let count = c.len-count.ensures in
    let whole = c.args.self.now.nodes.ok.0 in
    node-of c.nodes.at c.node_id-node.result
    (stopped-can c.nodes.at c.args.self.now c.nodes.self c.requires c.nodes.invariant) c.node_id-node.ensures
    (omega (arith, many, count, whole))

pub stop-requires-clause-sound : goal.stop-requires-clause-sound
stop-requires-clause-sound g c =
    queues-sound (stopped-can c.nodes.at c.args.self.now c.nodes.self c.requires c.nodes.invariant)

pub nodes-preserved : goal.nodes-preserved
nodes-preserved g c =
    let can = stopped-can c.nodes.at c.args.self.now c.nodes.self c.requires c.nodes.invariant in
    stopped-more c.nodes.at c.node_id-node.result c.args.self.now c.nodes.self c.stop.new.self
    (c.node_id-node.ensures can.0 can.1 can.3) c.nodes.invariant c.stop.ensures

pub returns-clause-stands : goal.returns-clause-stands
returns-clause-stands g c = λ setup d images.
    stopped-all c.nodes.at c.args.self.now c.nodes.self
    (let count = c.len-count.ensures in let whole = c.args.self.now.nodes.ok.0 in omega (arith, count, whole))
    c.nodes.invariant setup d images

pub returns-clause-disks : goal.returns-clause-disks
returns-clause-disks g c = c.nodes.invariant.disks
