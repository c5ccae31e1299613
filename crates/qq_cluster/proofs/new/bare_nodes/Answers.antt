use Rattle.std.proofs.Common.{◌≡◌, ℕ, arith, subst, sym}
use Rattle.qq_cluster.specs.Disks.{AreBareNodes}
use Rattle.qq_cluster.proofs.Putting.{bare-more, bare-none}
use Rattle.qq_cluster.proofs.new.bare_nodes.Goals as goal

pub nodes-init : goal.nodes-init
nodes-init g c =
    subst (AreBareNodes c.args.rows.now 0) (sym c.new-nodes.ensures.items) (bare-none c.args.rows.now)

pub nodes-preserved : goal.nodes-preserved
nodes-preserved g c =
    bare-more c.args.rows.now c.nodes.at c.nodes.nodes.items c.push.new.self.items c.in_ok-node.node c.nodes.invariant
    c.in_ok-node.ensures.ok c.in_ok-push.ensures.items

pub returns-clause-ok : goal.returns-clause-ok
returns-clause-ok g c =
    let last : c.nodes.at ≡ c.args.count = omega arith in
    subst (λ (n : ℕ). AreBareNodes c.args.rows.now n c.nodes.nodes.items) last c.nodes.invariant
