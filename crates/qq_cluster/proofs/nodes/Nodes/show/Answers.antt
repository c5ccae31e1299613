use Rattle.std.proofs.Common.{arith}
use Rattle.qq_cluster.proofs.Outcomes.{same-outcome}
use Rattle.qq_cluster.proofs.Shows.{shown-all, shown-more}
use Rattle.qq_cluster.proofs.nodes.Nodes.show.Goals as goal

pub nodes-init : goal.nodes-init
nodes-init g c = λ setup d st. same-outcome c.args.told.now

pub nodes-preserved : goal.nodes-preserved
nodes-preserved g c =
    shown-more c.args.queue.0 c.nodes.at c.args.self.now c.args.told.now _ _ (omega (arith, c.len-count.ensures))
    c.nodes.invariant c.in_ok-show_member.ensures.ok

pub returns-clause-ok : goal.returns-clause-ok
returns-clause-ok g c =
    shown-all c.args.queue.0 c.nodes.at c.args.self.now c.args.told.now _ (omega (arith, c.len-count.ensures))
    c.nodes.invariant
