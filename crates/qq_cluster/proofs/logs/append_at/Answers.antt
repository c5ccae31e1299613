use Rattle.std.proofs.lemmas.Option.{slice_get-get_or}
use Rattle.std.proofs.lemmas.Result.{IfErr-weaker, IfOk-weaker}
use Rattle.qq_cluster.specs.Logs.{Appends, AppendsInPart}
use Rattle.qq_cluster.proofs.Logged.{node-turns}
use Rattle.qq_cluster.proofs.logs.append_at.Goals as goal

pub append_own-requires : goal.append_own-requires
append_own-requires g c = c.requires.may _ (slice_get-get_or c.args.nodes.now c.args.at _ c.requires.place)

pub returns-clause-ok : goal.returns-clause-ok
returns-clause-ok g c =
    IfOk-weaker c.append_own.result _ _
    (λ answer done. node-turns (Appends g.D.NodeDisk.facts c.args.ops.items answer) c.args.at c.args.nodes.now _
    c.append_own.new.node c.requires.place done) c.append_own.ensures.ok

pub returns-clause-err : goal.returns-clause-err
returns-clause-err g c =
    IfErr-weaker c.append_own.result _ _
    (λ memory done. node-turns (AppendsInPart g.D.NodeDisk.facts c.args.ops.items memory) c.args.at c.args.nodes.now _
    c.append_own.new.node c.requires.place done) c.append_own.ensures.err
