use Rattle.std.proofs.Common.{◌-◌, arith}
use Rattle.std.proofs.lemmas.Result.{IfErr-weaker, on_ok_weaker}
use Rattle.qq_cluster.proofs.Items.{item-here}
use Rattle.qq_cluster.proofs.LineRules.{queue-index}
use Rattle.qq_cluster.proofs.Shown.{audit-over, caused-over}
use Rattle.qq_cluster.proofs.nodes.Nodes.audit_text.Goals as goal

pub index-requires : goal.index-requires
index-requires g c = omega (arith, c.requires.0, c.requires.1)

pub returns-clause-ok : goal.returns-clause-ok
returns-clause-ok g c =
    on_ok_weaker c.audit_text.result
    (λ own. audit-over c.args.self.now c.args.queue _ c.args.text.now.items c.audit_text.new.out.items c.requires
    (item-here c.args.self.now.queues.items (c.args.queue.0 - 1) _ (queue-index c.args.self.now c.args.queue c.requires)
    c.index.ensures) own) c.audit_text.ensures.ok

pub returns-clause-cause : goal.returns-clause-cause
returns-clause-cause g c =
    IfErr-weaker c.audit_text.result _ _
    (λ e cause. caused-over c.args.self.now c.args.queue _ e c.requires
    (item-here c.args.self.now.queues.items (c.args.queue.0 - 1) _ (queue-index c.args.self.now c.args.queue c.requires)
    c.index.ensures) cause) c.audit_text.ensures.cause
