use Rattle.std.proofs.Common.{ap, sym, ◌∙◌}
use Rattle.qq_live.specs.Indices.{LiveState}
use Rattle.qq_live.proofs.Sums.{count_at}
use Rattle.qq_live.proofs.Changes.{holders-told, none-held, some-held, none-removed, above-zero}
use Rattle.std.proofs.lemmas.Bool.{eqb-true}
use Rattle.qq_live.proofs.live.Live.remove.Goals as goal

pub returns-in-None-clause-value : goal.returns-in-None-clause-value
returns-in-None-clause-value c =
    let told =
    holders-told c.args.index c.place_of-place.result c.self.inside.slots.items c.args.self.now.indices
    c.self.invariant.fronted.rising c.place_of-place.ensures (ap (λ (l : LiveState). l.indices) c.self.view_is)
    ∙ ap count_at (sym c.holders_at.ensures) in
    none-held c.args.index c.args.self.now.indices (told ∙ ap count_at c.in-None.is)

pub returns-in-None-clause-indices : goal.returns-in-None-clause-indices
returns-in-None-clause-indices c =
    let told =
    holders-told c.args.index c.place_of-place.result c.self.inside.slots.items c.args.self.now.indices
    c.self.invariant.fronted.rising c.place_of-place.ensures (ap (λ (l : LiveState). l.indices) c.self.view_is)
    ∙ ap count_at (sym c.holders_at.ensures) in
    none-removed c.args.index c.args.self.now.indices (told ∙ ap count_at c.in-None.is)

pub returns-then-is_zero-clause-value : goal.returns-then-is_zero-clause-value
returns-then-is_zero-clause-value c =
    let told =
    holders-told c.args.index c.place_of-place.result c.self.inside.slots.items c.args.self.now.indices
    c.self.invariant.fronted.rising c.place_of-place.ensures (ap (λ (l : LiveState). l.indices) c.self.view_is)
    ∙ ap count_at (sym c.holders_at.ensures) in
    none-held c.args.index c.args.self.now.indices
    (told ∙ ap count_at c.in-Some.is ∙ eqb-true c.in-Some.holders 0 (sym c.is_zero.ensures ∙ c.if-is_zero.true))

pub returns-then-is_zero-clause-indices : goal.returns-then-is_zero-clause-indices
returns-then-is_zero-clause-indices c =
    let told =
    holders-told c.args.index c.place_of-place.result c.self.inside.slots.items c.args.self.now.indices
    c.self.invariant.fronted.rising c.place_of-place.ensures (ap (λ (l : LiveState). l.indices) c.self.view_is)
    ∙ ap count_at (sym c.holders_at.ensures) in
    none-removed c.args.index c.args.self.now.indices
    (told ∙ ap count_at c.in-Some.is ∙ eqb-true c.in-Some.holders 0 (sym c.is_zero.ensures ∙ c.if-is_zero.true))

pub returns-then-last-clause-value : goal.returns-then-last-clause-value
returns-then-last-clause-value c =
    let told =
    holders-told c.args.index c.place_of-place.result c.self.inside.slots.items c.args.self.now.indices
    c.self.invariant.fronted.rising c.place_of-place.ensures (ap (λ (l : LiveState). l.indices) c.self.view_is)
    ∙ ap count_at (sym c.holders_at.ensures) in
    some-held c.args.index c.args.self.now.indices c.in-Some.holders (told ∙ ap count_at c.in-Some.is)
    (above-zero c.in-Some.holders (sym c.is_zero.ensures ∙ c.if-is_zero.false))

pub returns-else-last-clause-value : goal.returns-else-last-clause-value
returns-else-last-clause-value c =
    let told =
    holders-told c.args.index c.place_of-place.result c.self.inside.slots.items c.args.self.now.indices
    c.self.invariant.fronted.rising c.place_of-place.ensures (ap (λ (l : LiveState). l.indices) c.self.view_is)
    ∙ ap count_at (sym c.holders_at.ensures) in
    some-held c.args.index c.args.self.now.indices c.in-Some.holders (told ∙ ap count_at c.in-Some.is)
    (above-zero c.in-Some.holders (sym c.is_zero.ensures ∙ c.if-is_zero.false))
