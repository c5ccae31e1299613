use Rattle.std.proofs.Common.{arith}
use Rattle.qq_base.proofs.Exits.{at_exit}
use Rattle.qq_cluster.proofs.CrashedEach.{cause-later, cause-none, crashed-all, crashed-can, crashed-more, crashed-none}
use Rattle.qq_cluster.proofs.Pumping.{node-of}
use Rattle.qq_cluster.proofs.crashing.crash_each.Goals as goal

pub nodes-init : goal.nodes-init
nodes-init g c = (crashed-none c.args.image.now c.args.nodes.now, omega arith)

pub node_id-node-requires : goal.node_id-node-requires
node_id-node-requires g c =
    let many = (crashed-can c.args.image.now c.nodes.at c.args.nodes.now _ c.requires.serve c.nodes.invariant.0).1 in
    omega (arith, many, c.len-count.ensures)

pub crash_node-requires-clause-serve : goal.crash_node-requires-clause-serve
crash_node-requires-clause-serve g c = λ lifetimes bounds.
    (crashed-can c.args.image.now c.nodes.at c.args.nodes.now _ c.requires.serve c.nodes.invariant.0).0

pub crash_node-requires-clause-node : goal.crash_node-requires-clause-node
crash_node-requires-clause-node g c = λ lifetimes bounds.
    (let both = crashed-can c.args.image.now c.nodes.at c.args.nodes.now _ c.requires.serve c.nodes.invariant.0 in
    let many = both.1 in
    node-of c.nodes.at c.node_id-node.result both.0 c.node_id-node.ensures (omega (arith, many, c.len-count.ensures)))

pub nodes-preserved : goal.nodes-preserved
nodes-preserved g c = (
  crashed-more c.args.image.now c.nodes.at c.node_id-node.result c.args.nodes.now _ _
      (let many = (crashed-can c.args.image.now c.nodes.at c.args.nodes.now _ c.requires.serve c.nodes.invariant.0).1 in
      omega (arith, many, c.len-count.ensures)) c.node_id-node.ensures c.nodes.invariant.0 c.in_ok-crash_node.ensures.ok,
  (let first = c.nodes.invariant.1 in let more = c.in_ok-crash_node.ensures.cause.later in omega (arith, first, more)),
)

pub returns-clause-ok : goal.returns-clause-ok
returns-clause-ok g c =
    crashed-all c.args.image.now c.nodes.at c.args.nodes.now _
    (let many = (crashed-can c.args.image.now c.nodes.at c.args.nodes.now _ c.requires.serve c.nodes.invariant.0).1 in
    omega (arith, many, c.len-count.ensures)) c.nodes.invariant.0

pub returns-in_err-crash_node-clause-cause : goal.returns-in_err-crash_node-clause-cause
returns-in_err-crash_node-clause-cause g c =
    let said = cause-later _ _ _ c.in_err-crash_node.field-0.0 c.nodes.invariant.1 c.in_err-crash_node.ensures.cause in
    record { later = said.later; cause = at_exit _ _ c.from_residual.ensures.1 said.cause }

pub returns-clause-cause : goal.returns-clause-cause
returns-clause-cause g c = cause-none _ _ c.nodes.invariant.1
