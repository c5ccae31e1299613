use Rattle.std.proofs.lemmas.Result.{IfOk-weaker}
use Rattle.qq_queue.specs.Sessions.{standings}
use Rattle.qq_cluster.proofs.Judged.{judged-at}
use Rattle.qq_cluster.proofs.happening.judge_at.Goals as goal

pub returns-clause-ok : goal.returns-clause-ok
returns-clause-ok g c =
    IfOk-weaker c.judge_told.result _ _
    (λ claim judged. judged-at claim (standings c.args.sessions.now) c.args.at c.args.queues.now _ c.judge_told.new.queue c.args.told.now c.judge_told.new.told
    c.requires.place c.judge_told.ensures.sound c.judge_told.ensures.same judged) c.judge_told.ensures.ok
