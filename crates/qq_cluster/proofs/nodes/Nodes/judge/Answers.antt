use Rattle.std.proofs.Common.{refl}
use Rattle.std.proofs.lemmas.Result.{IfOk-weaker}
use Rattle.qq_cluster.proofs.Items.{queues-sound}
use Rattle.qq_cluster.proofs.Judged.{served-judged}
use Rattle.qq_cluster.proofs.nodes.Nodes.judge.Goals as goal

pub judge_in-requires-clause-sound : goal.judge_in-requires-clause-sound
judge_in-requires-clause-sound g c = queues-sound c.requires.serve

pub returns-clause-ok : goal.returns-clause-ok
returns-clause-ok g c =
    IfOk-weaker c.judge_in.result _ _
    (λ claim judges. served-judged claim c.args.at c.args.self.now
    (record c.args.self.now { queues = c.judge_in.new.queues }) c.args.told.now c.judge_in.new.told c.requires.active refl
    judges) c.judge_in.ensures.ok
