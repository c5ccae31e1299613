use Rattle.std.proofs.Common.{ap, ◌∙◌}
use Rattle.std.proofs.lemmas.Result.{IfOk-weaker}
use Rattle.qq_queue.specs.Tally.{count_rows}
use Rattle.qq_queue.specs.declared.tally.Tally.{Tally}
use Rattle.qq_cluster_run.specs.Drilling.{all_rows}
use Rattle.qq_cluster_run.specs.Serving.{cluster_in, setup_in}
use Rattle.qq_broker.proofs.DrillAudits.{line-is}
use Rattle.qq_broker.proofs.drills.finish.Goals as goal

pub returns : goal.returns
returns g c = λ given run k h knows.
    (let S = setup_in c.args.setup.now run in
    let d = cluster_in c.args.setup.now run in
    let counted = c.in_ok-add_audits.ensures.tally given run h
    ∙ ap (λ (t : Tally). count_rows (all_rows S d) t) c.new-tally.ensures in
    IfOk-weaker c.summary.result _ _
    (λ line is. is ∙ line-is c.args.number S d k c.add_audits.new.tally c.args.play.delivered c.finalize.result counted
    knows.delivered (c.finalize.ensures _ (c.in_ok-add_audits.ensures.digest given run k.text h knows.digest)))
    c.summary.ensures.ok)
