use Rattle.std.proofs.Common.{true, false, arith, sym}
use Rattle.std.proofs.lemmas.Bool.Decides.{Decides-at}
use Rattle.std.proofs.lemmas.List.{drop_all}
use Rattle.qq_agree.specs.Tests.{terms_rise}
use Rattle.qq_agree.proofs.Rises.{terms_rise-decides}
use Rattle.qq_agree.proofs.Walks.{rises-all, rises-more, rises-no_more}
use Rattle.qq_agree.proofs.rising.terms_rise.Goals as goal

pub returns-then-term-before-clause-test : goal.returns-then-term-before-clause-test
returns-then-term-before-clause-test g c =
    rises-no_more (g.H.Holder.lane c.args.holder.now c.args.node.0) c.entries.place c.entries.before c.term-own.result.0
    c.in-Some.entry.now c.term-own.ensures (sym c.in-Some.ensures) c.then-term-before.either c.entries.invariant

pub returns-then-term-before-clause-exact : goal.returns-then-term-before-clause-exact
returns-then-term-before-clause-exact g c =
    let l = g.H.Holder.lane c.args.holder.now c.args.node.0 in
    Decides-at false (terms_rise l)
    (rises-no_more l c.entries.place c.entries.before c.term-own.result.0 c.in-Some.entry.now c.term-own.ensures
    (sym c.in-Some.ensures) c.then-term-before.either c.entries.invariant)
    (terms_rise-decides l)

pub entries-preserved : goal.entries-preserved
entries-preserved g c =
    rises-more (g.H.Holder.lane c.args.holder.now c.args.node.0).log c.entries.place c.entries.before
    c.term-own.result.0 c.in-Some.entry.now (sym c.in-Some.ensures) c.if-term-before.false
    c.if-own-term.false c.entries.invariant

pub returns-clause-exact : goal.returns-clause-exact
returns-clause-exact g c =
    let l = g.H.Holder.lane c.args.holder.now c.args.node.0 in
    Decides-at true (terms_rise l)
    (rises-all l c.entries.place c.entries.before c.term-own.result.0 c.term-own.ensures
    (drop_all c.entries.place l.log (omega (arith, c.entries-test.false, c.count-place-end.ensures.value)))
    c.entries.invariant)
    (terms_rise-decides l)
