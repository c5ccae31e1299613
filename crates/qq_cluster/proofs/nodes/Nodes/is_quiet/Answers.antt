use Rattle.std.proofs.Common.{◌∙◌, ◌+◌, ap, refl, sym, arith}
use Rattle.std.specs.Prelude.{length}
use Rattle.qq_cluster_model.specs.Rules.{is_quiet_at}
use Rattle.qq_cluster.proofs.Pumping.{busy-bag, busy-node, node-of, quiet-all, quiet-more}
use Rattle.qq_cluster.proofs.nodes.Nodes.is_quiet.Goals as goal

pub nodes-init : goal.nodes-init
nodes-init g c = λ setup d r st. refl

pub is_settled-done-requires-clause-node : goal.is_settled-done-requires-clause-node
is_settled-done-requires-clause-node g c =
    node-of c.nodes.place c.node_id-node.result c.requires.serve c.node_id-node.ensures (omega (arith, c.len-nodes.ensures))

pub nodes-preserved : goal.nodes-preserved
nodes-preserved g c = λ setup d r st.
    quiet-more setup d.up (d.queue (c.args.at + 1)) (length c.args.self.now.nodes.items) c.nodes.place st.set_up.nodes
    (omega (arith, c.len-nodes.ensures)) (c.nodes.invariant setup d r st)
    (ap (is_quiet_at (d.queue (c.args.at + 1)) d.up) (sym (c.node_id-node.ensures setup d st))
    ∙ sym (sym c.if-not-done.false ∙ c.is_settled-done.ensures setup d r st))

pub returns-then-not-done : goal.returns-then-not-done
returns-then-not-done g c = λ setup d r st.
    busy-node setup d.up (d.queue (c.args.at + 1)) (length c.args.self.now.nodes.items) c.nodes.place st.set_up.nodes
    (omega (arith, c.len-nodes.ensures))
    (ap (is_quiet_at (d.queue (c.args.at + 1)) d.up) (sym (c.node_id-node.ensures setup d st))
    ∙ sym (sym c.if-not-done.true ∙ c.is_settled-done.ensures setup d r st))

pub returns-then-count-gt0 : goal.returns-then-count-gt0
returns-then-count-gt0 g c = λ setup d r st.
    busy-bag setup d.up (d.queue (c.args.at + 1))
    (let all = c.messages-count.ensures setup d st in omega (arith, all, c.if-count-gt0.true))

pub returns : goal.returns
returns g c = λ setup d r st.
    quiet-all setup d.up (d.queue (c.args.at + 1)) (length c.args.self.now.nodes.items) c.nodes.place st.set_up.nodes
    (omega (arith, c.len-nodes.ensures))
    (let all = c.messages-count.ensures setup d st in omega (arith, all, c.if-count-gt0.false))
    (c.nodes.invariant setup d r st)
