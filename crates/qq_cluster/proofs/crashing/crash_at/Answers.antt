use Rattle.std.proofs.lemmas.Option.{slice_get-get_or}
use Rattle.std.proofs.lemmas.Result.{on_ok_weaker}
use Rattle.qq_cluster.proofs.Logged.{node-turns}
use Rattle.qq_cluster.proofs.crashing.crash_at.Goals as goal

pub crash_own-requires-clause-own : goal.crash_own-requires-clause-own
crash_own-requires-clause-own g c = λ lifetimes bounds.
    c.requires.own _ (slice_get-get_or c.args.nodes.now c.args.at _ c.requires.place)

pub returns-clause-ok : goal.returns-clause-ok
returns-clause-ok g c =
    on_ok_weaker c.crash_own.result
    (λ done. node-turns _ c.args.at c.args.nodes.now _ c.crash_own.new.node c.requires.place done)
    c.crash_own.ensures.ok
