use Rattle.std.proofs.Common.{arith}
use Rattle.qq_base.proofs.Exits.{at_exit}
use Rattle.qq_cluster.proofs.Pumping.{many-after, node-of}
use Rattle.qq_cluster.proofs.Stands.{can-after}
use Rattle.qq_opening.proofs.RefusedEach.{refuses-each}
use Rattle.qq_opening.proofs.RestartedEach.{first-all, first-next, first-none}
use Rattle.qq_opening.proofs.restarting.restart_each.Goals as goal

pub nodes-init : goal.nodes-init
nodes-init g c = first-none c.args.nodes.now c.args.told.now

pub node_id-node-requires : goal.node_id-node-requires
node_id-node-requires g c =
    let many = (many-after c.requires c.nodes.invariant).1 in omega (arith, many, c.len-count.ensures)

pub restart-requires-clause-serve : goal.restart-requires-clause-serve
restart-requires-clause-serve g c = can-after c.requires c.nodes.invariant

pub restart-requires-clause-node : goal.restart-requires-clause-node
restart-requires-clause-node g c =
    node-of c.nodes.at c.node_id-node.result (can-after c.requires c.nodes.invariant) c.node_id-node.ensures
    (let many = (many-after c.requires c.nodes.invariant).1 in omega (arith, many, c.len-count.ensures))

pub nodes-preserved : goal.nodes-preserved
nodes-preserved g c =
    first-next c.nodes.at c.node_id-node.result c.node_id-node.ensures
    (let many = (many-after c.requires c.nodes.invariant).1 in omega (arith, many, c.len-count.ensures))
    c.nodes.invariant c.in_ok-restart.ensures.ok

pub returns-clause-ok : goal.returns-clause-ok
returns-clause-ok g c = first-all c.nodes.at (omega (arith, c.len-count.ensures)) c.nodes.invariant

pub returns-in_err-restart-clause-err : goal.returns-in_err-restart-clause-err
returns-in_err-restart-clause-err g c =
    at_exit _ _ c.from_residual.ensures.1 (refuses-each c.nodes.at c.node_id-node.result c.node_id-node.ensures
    (let many = (many-after c.requires c.nodes.invariant).1 in omega (arith, many, c.len-count.ensures))
    c.nodes.invariant c.in_err-restart.ensures.err)
