use Rattle.std.proofs.Common.{◌≡◌, ◌-◌, refl, arith}
use Rattle.std.proofs.lemmas.Result.{IfErr-weaker, on_ok_weaker}
use Rattle.qq_cluster_model.specs.Queue.{audit_rows}
use Rattle.qq_queue.specs.Tally.{count_rows}
use Rattle.qq_cluster.proofs.Items.{item-here}
use Rattle.qq_cluster.proofs.LineRules.{queue-index}
use Rattle.qq_cluster.proofs.Shown.{caused-over, told-at}
use Rattle.qq_cluster.proofs.nodes.Nodes.count_rows.Goals as goal

pub index-requires : goal.index-requires
index-requires g c = omega (arith, c.requires.0, c.requires.1)

pub returns-clause-ok : goal.returns-clause-ok
returns-clause-ok g c =
    on_ok_weaker c.count_rows.result
    (λ own. told-at (λ q. c.count_rows.new.tally ≡ count_rows (audit_rows q) c.args.tally.now) c.args.self.now
    c.args.queue _ c.requires
    (item-here c.args.self.now.queues.items (c.args.queue.0 - 1) _ (queue-index c.args.self.now c.args.queue c.requires)
    c.index.ensures) own) c.count_rows.ensures.ok

pub returns-clause-cause : goal.returns-clause-cause
returns-clause-cause g c =
    IfErr-weaker c.count_rows.result _ _
    (λ e cause setup d stands. caused-over c.args.self.now c.args.queue _ e c.requires
    (item-here c.args.self.now.queues.items (c.args.queue.0 - 1) _ (queue-index c.args.self.now c.args.queue c.requires)
    c.index.ensures) cause setup d c.args.self.now refl stands) c.count_rows.ensures.cause
