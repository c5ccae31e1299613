use Rattle.std.proofs.Common.{None, Some, sym, ◌∙◌}
use Rattle.std.proofs.lemmas.Result.{IfErr-weaker, on_ok_weaker}
use Rattle.qq_cluster.proofs.LineRules.{ended-gave_up, gives, gives-ended, submit-gave_up}
use Rattle.qq_cluster.proofs.nodes.Nodes.give_active.Goals as goal

pub returns-then-ended-clause-ok : goal.returns-then-ended-clause-ok
returns-then-ended-clause-ok g c =
    on_ok_weaker c.happen_active.result
    (λ served. gives-ended c.args.at c.args.session c.args.body c.requires.place
    (sym c.if-ended.true ∙ c.is_ended-ended.ensures) served) c.happen_active.ensures.ok

pub returns-in-Some-clause-ok : goal.returns-in-Some-clause-ok
returns-in-Some-clause-ok g c =
    on_ok_weaker c.happen_active-in-Some.result
    (λ served. gives c.args.at c.args.session c.args.body (Some c.in-Some.id) c.requires.place
    (sym c.if-ended.false ∙ c.is_ended-ended.ensures) c.in-Some.ensures served) c.happen_active-in-Some.ensures.ok

pub returns-clause-ok : goal.returns-clause-ok
returns-clause-ok g c =
    on_ok_weaker c.happen_active-2.result
    (λ served. gives c.args.at c.args.session c.args.body None c.requires.place
    (sym c.if-ended.false ∙ c.is_ended-ended.ensures) c.in_default.ensures served) c.happen_active-2.ensures.ok

pub returns-then-ended-clause-err : goal.returns-then-ended-clause-err
returns-then-ended-clause-err g c =
    IfErr-weaker c.happen_active.result _ _
    (λ memory given. ended-gave_up c.args.at c.args.session c.args.body c.requires.place
    (sym c.if-ended.true ∙ c.is_ended-ended.ensures) given) c.happen_active.ensures.err

pub returns-in-Some-clause-err : goal.returns-in-Some-clause-err
returns-in-Some-clause-err g c =
    IfErr-weaker c.happen_active-in-Some.result _ _
    (λ memory given. submit-gave_up c.args.at c.args.session c.args.body (Some c.in-Some.id) c.requires.place
    (sym c.if-ended.false ∙ c.is_ended-ended.ensures) c.in-Some.ensures given) c.happen_active-in-Some.ensures.err

pub returns-clause-err : goal.returns-clause-err
returns-clause-err g c =
    IfErr-weaker c.happen_active-2.result _ _
    (λ memory given. submit-gave_up c.args.at c.args.session c.args.body None c.requires.place
    (sym c.if-ended.false ∙ c.is_ended-ended.ensures) c.in_default.ensures given) c.happen_active-2.ensures.err
