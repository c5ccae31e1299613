use Rattle.std.proofs.lemmas.Result.{on_ok_weaker}
use Rattle.qq_cluster_run.proofs.Exports.{three-parts}
use Rattle.qq_cluster_run.proofs.definitions.push_made.Goals as goal

pub returns-clause-ok : goal.returns-clause-ok
returns-clause-ok c =
    on_ok_weaker c.push_count-3.result
    (λ is. three-parts c.args.line.now.items c.push_count.new.line.items c.push_count-2.new.line.items
    c.push_count-3.new.line.items _ _ _ c.in_ok-push_count.ensures.ok c.in_ok-push_count-2.ensures.ok is)
    c.push_count-3.ensures.ok
