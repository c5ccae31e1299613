use Rattle.std.specs.Prelude.{slice_get, Some}
use Rattle.std.proofs.Common.{◌≡◌, subst}
use Rattle.std.proofs.lemmas.Result.{IfErr-weaker, IfOk-weaker}
use Rattle.qq_cluster.proofs.Logged.{turns-back}
use Rattle.qq_opening.proofs.stepping.recover_in.Goals as goal

pub recover_at-requires-clause-own : goal.recover_at-requires-clause-own
recover_at-requires-clause-own g c node here =
    c.requires.own node (subst (λ nodes. slice_get nodes c.args.at ≡ Some node) c.deref_mut.ensures.value here)

pub recover_at-requires-clause-apart : goal.recover_at-requires-clause-apart
recover_at-requires-clause-apart g c node here =
    c.requires.apart node (subst (λ nodes. slice_get nodes c.args.at ≡ Some node) c.deref_mut.ensures.value here)

pub returns-clause-ok : goal.returns-clause-ok
returns-clause-ok g c =
    IfOk-weaker c.recover_at.result _ _
    (λ lanes done. turns-back _ c.args.at c.args.nodes.now.items c.deref_mut.result.now c.recover_at.new.nodes
    c.args.nodes.now.len c.deref_mut.ensures.value c.deref_mut.ensures.len done) c.recover_at.ensures.ok

pub returns-clause-err : goal.returns-clause-err
returns-clause-err g c =
    IfErr-weaker c.recover_at.result _ _
    (λ fault done. turns-back _ c.args.at c.args.nodes.now.items c.deref_mut.result.now c.recover_at.new.nodes
    c.args.nodes.now.len c.deref_mut.ensures.value c.deref_mut.ensures.len done) c.recover_at.ensures.err
