use Rattle.std.proofs.Common.{sym, ◌∙◌, arith}
use Rattle.qq_cluster.proofs.Pumping.{node-of}
use Rattle.qq_opening.proofs.Reopened.{none-more, none-up, one-up}
use Rattle.qq_opening.proofs.reopening.has_up.Goals as goal

pub nodes-init : goal.nodes-init
nodes-init g c = λ setup d st k low high. absurd (omega (arith, low, high))

pub node_id-node-requires : goal.node_id-node-requires
node_id-node-requires g c = omega (arith, c.len-count.ensures)

pub is_up-up-requires : goal.is_up-up-requires
is_up-up-requires g c =
    node-of c.nodes.at c.node_id-node.result c.requires c.node_id-node.ensures (omega (arith, c.len-count.ensures))

pub returns-then-up : goal.returns-then-up
returns-then-up g c = λ setup d st.
    one-up c.args.nodes.now c.nodes.at c.node_id-node.result.0 setup d st (omega (arith, c.len-count.ensures))
    (c.node_id-node.ensures setup d st) (sym (c.is_up-up.ensures setup d st) ∙ c.if-up.true)

pub nodes-preserved : goal.nodes-preserved
nodes-preserved g c =
    none-more c.args.nodes.now c.nodes.at c.node_id-node.result.0 c.is_up-up.result c.nodes.invariant c.if-up.false
    c.node_id-node.ensures c.is_up-up.ensures

pub returns : goal.returns
returns g c = λ setup d st.
    none-up c.args.nodes.now c.nodes.at setup d (omega (arith, c.len-count.ensures)) c.nodes.invariant st
