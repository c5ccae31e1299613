use Rattle.std.proofs.Common.{◌∙◌, ap, refl, arith, ◌+◌}
use Rattle.std.specs.Prelude.{length}
use Rattle.qq_base.proofs.Exits.{at_exit}
use Rattle.qq_cluster_model.specs.Cluster.{Cluster}
use Rattle.qq_cluster.specs.Active.{is_in}
use Rattle.qq_cluster_model.specs.Rules.{IsNextJudged}
use Rattle.qq_cluster.proofs.Pumping.{many-after}
use Rattle.qq_cluster.proofs.Repeated.{times-by, times-by_gave_up, times-end, times-gave_up, times-more, times-start}
use Rattle.qq_cluster.proofs.Stands.{can-after}
use Rattle.qq_cluster.proofs.Total.{total-next}
use Rattle.qq_cluster.proofs.nodes.Nodes.judge_each.Goals as goal

pub verdicts-init : goal.verdicts-init
verdicts-init g c =
    (times-start (IsNextJudged (c.args.at + 1)) c.untold_count-count.result c.args.self.now c.args.told.now, refl)

pub judge_next-requires-clause-serve : goal.judge_next-requires-clause-serve
judge_next-requires-clause-serve g c = can-after c.requires.serve c.verdicts.invariant.0

pub judge_next-requires-clause-place : goal.judge_next-requires-clause-place
judge_next-requires-clause-place g c =
    let many = (many-after c.requires.serve c.verdicts.invariant.0).0 in omega (arith, many, c.requires.place)

pub judge_next-requires-clause-active : goal.judge_next-requires-clause-active
judge_next-requires-clause-active g c = ap (is_in c.args.at) c.verdicts.invariant.1 ∙ c.requires.active

pub verdicts-preserved : goal.verdicts-preserved
verdicts-preserved g c = (
  times-more (IsNextJudged (c.args.at + 1)) c.verdicts.verdict c.untold_count-count.result (omega arith)
      c.verdicts.invariant.0 c.in_ok-judge_next.ensures.ok,
  c.judge_next.ensures.active ∙ c.verdicts.invariant.1,
)

pub returns-clause-ok : goal.returns-clause-ok
returns-clause-ok g c =
    times-by (IsNextJudged (c.args.at + 1)) c.untold_count-count.result
    (λ (d : Cluster). length (d.queue (c.args.at + 1)).untold) c.untold_count-count.ensures
    (times-end (IsNextJudged (c.args.at + 1)) c.verdicts.verdict c.untold_count-count.result (omega arith)
    c.verdicts.invariant.0)

pub returns-in_err-judge_next-clause-err : goal.returns-in_err-judge_next-clause-err
returns-in_err-judge_next-clause-err g c =
    at_exit _ _ c.from_residual.ensures.1 (times-by_gave_up (IsNextJudged (c.args.at + 1)) c.untold_count-count.result
    (λ (d : Cluster). length (d.queue (c.args.at + 1)).untold) c.untold_count-count.ensures
    (times-gave_up (IsNextJudged (c.args.at + 1)) c.verdicts.verdict c.untold_count-count.result
    (total-next (c.args.at + 1)) (omega arith) c.verdicts.invariant.0 c.in_err-judge_next.ensures.err))
