use Rattle.std.proofs.Common.{sym, ◌∙◌, arith}
use Rattle.qq_entry.proofs.Equalities.{other-lengths, other-item}
use Rattle.qq_entry.proofs.lists.are_same.Goals as goal

pub returns-then-a-b : goal.returns-then-a-b
returns-then-a-b g c =
    sym (other-lengths g.T.Same.same c.args.a.now c.args.b.now (λ same. c.if-a-b.true same))

pub returns-then-not-is_same : goal.returns-then-not-is_same
returns-then-not-is_same g c =
    other-item g.T.Same.same c.args.a.now c.args.b.now c.items.at c.index-a-at.result c.index-b-at.result
    c.items-test.true (omega (arith, c.items-test.true, c.if-a-b.false)) c.index-a-at.is c.index-b-at.is
    (sym c.is_same.ensures ∙ c.if-not-is_same.true)
    ∙ c.items.invariant
