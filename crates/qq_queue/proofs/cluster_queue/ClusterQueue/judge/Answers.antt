use Rattle.std.proofs.Common.{◌∷◌, ◌++◌, [], List, Option, ap, subst, ◌∙◌}
use Rattle.qq_session.specs.declared.shown.Shown.{Shown}
use Rattle.qq_taker.specs.declared.handed.Handed.{Handed}
use Rattle.qq_cluster_model.specs.Queue.{Judges, happens}
use Rattle.qq_queue.specs.ClusterQueue.{Stands}
use Rattle.qq_queue.specs.Judging.{judged_as}
use Rattle.qq_queue.proofs.Verdicts.{judges-nothing, verdict-does}
use Rattle.qq_queue.proofs.cluster_queue.ClusterQueue.judge.Goals as goal

pub returns-in_default-clause-ok : goal.returns-in_default-clause-ok
returns-in_default-clause-ok c = λ sessions q st.
    let both = judges-nothing sessions c.args.self.now q c.args.verdict c.args.shown.now.items st
    c.in_default.ensures.none in (
      subst (λ (untold : List Handed). Stands sessions (record c.args.self.now { untold = untold })
          (happens q (Judges c.args.verdict))) c.in_default.ensures.items both.0,
      both.1,
    )

pub returns-clause-ok : goal.returns-clause-ok
returns-clause-ok c = λ sessions q st.
    verdict-does sessions c.args.self.now q c.in-Some.first c.pop.new.self c.release.new.untold c.args.verdict
    c.args.shown.now.items c.push.new.self.items c.release.new.shown.items st c.in-Some.ensures.items
    (c.in_ok-push.ensures.items
    ∙ ap (λ (s : Shown). c.args.shown.now.items ++ s ∷ []) (c.judged.ensures
    ∙ ap (λ (o : Option _). judged_as o c.in-Some.first c.args.verdict) c.taker_of-taker.ensures))
    c.in_ok-release.ensures.untold c.in_ok-release.ensures.said
