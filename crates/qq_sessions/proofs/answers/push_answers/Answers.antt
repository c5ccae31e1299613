use Rattle.qq_sessions.proofs.Holders.{answers-take, pushed}
use Rattle.qq_sessions.proofs.answers.push_answers.Goals as goal

pub answers-preserved : goal.answers-preserved
answers-preserved c =
    pushed _ _ _ _ _ _ c.answers.invariant c.in_ok-push_got.ensures.ok
    (answers-take c.args.kept.now.items c.answers.place c.answer_at.result.now c.answer_at.ensures)
