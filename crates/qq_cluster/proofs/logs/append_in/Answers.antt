use Rattle.std.specs.Prelude.{slice_get, Some}
use Rattle.std.proofs.Common.{◌≡◌, subst}
use Rattle.std.proofs.lemmas.Result.{IfErr-weaker, IfOk-weaker}
use Rattle.qq_cluster.specs.Logs.{Appends, AppendsInPart}
use Rattle.qq_cluster.proofs.Logged.{turns-back}
use Rattle.qq_cluster.proofs.logs.append_in.Goals as goal

pub append_at-requires-clause-may : goal.append_at-requires-clause-may
append_at-requires-clause-may g c node here =
    c.requires.may node (subst (λ nodes. slice_get nodes c.args.at ≡ Some node) c.deref_mut.ensures.value here)

pub returns-clause-ok : goal.returns-clause-ok
returns-clause-ok g c =
    IfOk-weaker c.append_at.result _ _
    (λ answer done. turns-back (Appends g.D.NodeDisk.facts c.args.ops.items answer) c.args.at c.args.nodes.now.items
    c.deref_mut.result.now c.append_at.new.nodes c.args.nodes.now.len c.deref_mut.ensures.value
    c.deref_mut.ensures.len done) c.append_at.ensures.ok

pub returns-clause-err : goal.returns-clause-err
returns-clause-err g c =
    IfErr-weaker c.append_at.result _ _
    (λ memory done. turns-back (AppendsInPart g.D.NodeDisk.facts c.args.ops.items memory) c.args.at
    c.args.nodes.now.items c.deref_mut.result.now c.append_at.new.nodes c.args.nodes.now.len c.deref_mut.ensures.value
    c.deref_mut.ensures.len done) c.append_at.ensures.err
