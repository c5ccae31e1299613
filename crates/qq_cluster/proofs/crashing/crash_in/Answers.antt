use Rattle.std.specs.Prelude.{slice_get, Some}
use Rattle.std.proofs.Common.{◌≡◌, subst}
use Rattle.std.proofs.lemmas.Result.{on_ok_weaker}
use Rattle.qq_cluster.proofs.Logged.{turns-back}
use Rattle.qq_cluster.proofs.crashing.crash_in.Goals as goal

pub crash_at-requires-clause-own : goal.crash_at-requires-clause-own
crash_at-requires-clause-own g c lifetimes bounds node here =
    c.requires.own node (subst (λ nodes. slice_get nodes c.args.at ≡ Some node) c.deref_mut.ensures.value here)

pub returns-clause-ok : goal.returns-clause-ok
returns-clause-ok g c =
    on_ok_weaker c.crash_at.result
    (λ done. turns-back _ c.args.at c.args.nodes.now.items c.deref_mut.result.now c.crash_at.new.nodes
    c.args.nodes.now.len c.deref_mut.ensures.value c.deref_mut.ensures.len done) c.crash_at.ensures.ok
