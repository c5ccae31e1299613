use Rattle.std.proofs.Common.{arith}
use Rattle.qq_base.proofs.Exits.{at_exit}
use Rattle.qq_cluster_model.specs.Rules.{IsNodeRound}
use Rattle.qq_cluster.specs.Nodes.{nodes_in}
use Rattle.qq_cluster.proofs.Pumping.{many-after, node-of, nodes-end, nodes-gave_up, nodes-more}
use Rattle.qq_cluster.proofs.Stands.{can-after, each-start}
use Rattle.qq_cluster.proofs.Total.{total-node}
use Rattle.qq_cluster.proofs.nodes.Nodes.round_each.Goals as goal

pub nodes-init : goal.nodes-init
nodes-init g c = each-start nodes_in IsNodeRound c.args.self.now c.args.told.now

pub node_id-node-requires : goal.node_id-node-requires
node_id-node-requires g c = let many = (many-after c.requires c.nodes.invariant).1 in omega (arith, many, c.len-count.ensures)

pub node_round-requires-clause-serve : goal.node_round-requires-clause-serve
node_round-requires-clause-serve g c = can-after c.requires c.nodes.invariant

pub node_round-requires-clause-node : goal.node_round-requires-clause-node
node_round-requires-clause-node g c =
    node-of c.nodes.at c.node_id-node.result (can-after c.requires c.nodes.invariant) c.node_id-node.ensures
    (let many = (many-after c.requires c.nodes.invariant).1 in omega (arith, many, c.len-count.ensures))

pub nodes-preserved : goal.nodes-preserved
nodes-preserved g c =
    nodes-more IsNodeRound c.nodes.at c.node_id-node.result (can-after c.requires c.nodes.invariant) c.node_id-node.ensures
    (let many = (many-after c.requires c.nodes.invariant).1 in omega (arith, many, c.len-count.ensures))
    c.nodes.invariant c.in_ok-node_round.ensures.ok

pub returns-clause-ok : goal.returns-clause-ok
returns-clause-ok g c =
    nodes-end IsNodeRound c.nodes.at
    (let many = (many-after c.requires c.nodes.invariant).1 in omega (arith, many, c.len-count.ensures)) c.nodes.invariant

pub returns-in_err-node_round-clause-err : goal.returns-in_err-node_round-clause-err
returns-in_err-node_round-clause-err g c =
    at_exit _ _ c.from_residual.ensures.1 (nodes-gave_up IsNodeRound c.nodes.at c.node_id-node.result total-node c.node_id-node.ensures
    (let many = (many-after c.requires c.nodes.invariant).1 in omega (arith, many, c.len-count.ensures))
    c.nodes.invariant c.in_err-node_round.ensures.err)
