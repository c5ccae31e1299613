use Rattle.std.proofs.lemmas.Option.{slice_get-get_or}
use Rattle.std.proofs.lemmas.Result.{IfErr-weaker, IfOk-weaker}
use Rattle.qq_cluster.specs.Logs.{Syncs, SyncsInPart}
use Rattle.qq_cluster.proofs.Logged.{node-turns}
use Rattle.qq_cluster.proofs.logs.sync_at.Goals as goal

pub sync_own-requires : goal.sync_own-requires
sync_own-requires g c = c.requires.may _ (slice_get-get_or c.args.nodes.now c.args.at _ c.requires.place)

pub returns-clause-ok : goal.returns-clause-ok
returns-clause-ok g c =
    IfOk-weaker c.sync_own.result _ _
    (λ answer done. node-turns (Syncs g.D.NodeDisk.facts answer) c.args.at c.args.nodes.now _ c.sync_own.new.node
    c.requires.place done) c.sync_own.ensures.ok

pub returns-clause-err : goal.returns-clause-err
returns-clause-err g c =
    IfErr-weaker c.sync_own.result _ _
    (λ memory done. node-turns (SyncsInPart g.D.NodeDisk.facts memory) c.args.at c.args.nodes.now _ c.sync_own.new.node
    c.requires.place done) c.sync_own.ensures.err
