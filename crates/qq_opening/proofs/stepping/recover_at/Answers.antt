use Rattle.std.proofs.lemmas.Option.{slice_get-get_or}
use Rattle.std.proofs.lemmas.Result.{IfErr-weaker, IfOk-weaker}
use Rattle.qq_cluster.proofs.Logged.{node-turns}
use Rattle.qq_opening.proofs.stepping.recover_at.Goals as goal

pub recover_own-requires-clause-own : goal.recover_own-requires-clause-own
recover_own-requires-clause-own g c =
    c.requires.own _ (slice_get-get_or c.args.nodes.now c.args.at _ c.requires.place)

pub recover_own-requires-clause-apart : goal.recover_own-requires-clause-apart
recover_own-requires-clause-apart g c =
    c.requires.apart _ (slice_get-get_or c.args.nodes.now c.args.at _ c.requires.place)

pub returns-clause-ok : goal.returns-clause-ok
returns-clause-ok g c =
    IfOk-weaker c.recover_own.result _ _
    (λ lanes done. node-turns _ c.args.at c.args.nodes.now _ c.recover_own.new.node c.requires.place done)
    c.recover_own.ensures.ok

pub returns-clause-err : goal.returns-clause-err
returns-clause-err g c =
    IfErr-weaker c.recover_own.result _ _
    (λ fault done. node-turns _ c.args.at c.args.nodes.now _ c.recover_own.new.node c.requires.place done)
    c.recover_own.ensures.err
