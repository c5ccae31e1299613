use Rattle.std.proofs.Common.{true, false, refl, sym, ◌∙◌}
use Rattle.qq_agree.specs.Tests.{all_have_elections, all_match}
use Rattle.qq_agree.proofs.Supports.{audit-known}
use Rattle.qq_agree.proofs.supporting.support_audit.Goals as goal

pub returns-then-not-rise : goal.returns-then-not-rise
returns-then-not-rise g c =
    let lane = g.H.Holder.lane c.args.holder.now in
    let nodes = c.args.nodes.now in
    audit-known nodes lane false false (all_match lane nodes) (all_have_elections lane nodes nodes)
    (sym c.if-not-rise.true ∙ c.all_rise-rise.ensures) refl refl refl

pub returns-then-not-agree : goal.returns-then-not-agree
returns-then-not-agree g c =
    let lane = g.H.Holder.lane c.args.holder.now in
    let nodes = c.args.nodes.now in
    audit-known nodes lane false true false (all_have_elections lane nodes nodes)
    (sym c.if-not-rise.false ∙ c.all_rise-rise.ensures) (sym c.if-not-agree.true ∙ c.all_match-agree.ensures) refl refl

pub returns : goal.returns
returns g c =
    let lane = g.H.Holder.lane c.args.holder.now in
    let nodes = c.args.nodes.now in
    audit-known nodes lane c.all_have_elections.result true true c.all_have_elections.result
    (sym c.if-not-rise.false ∙ c.all_rise-rise.ensures) (sym c.if-not-agree.false ∙ c.all_match-agree.ensures)
    c.all_have_elections.ensures refl
