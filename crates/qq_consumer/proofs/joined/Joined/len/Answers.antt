use Rattle.std.proofs.Common.{ap, subst}
use Rattle.std.specs.List.{AllByRecursion}
use Rattle.qq_parts.specs.Parts.{HasOut, AreApart}
use Rattle.qq_consumer.specs.Joined.{JoinedState}
use Rattle.qq_consumer.proofs.JoinedRows.{apart-distinct, all-out}
use Rattle.qq_consumer.proofs.joined.Joined.len.Goals as goal

pub returns-clause-apart : goal.returns-clause-apart
returns-clause-apart c =
    subst AreApart (ap (λ (j : JoinedState). j.served) c.self.view_is)
    (apart-distinct c.self.inside.rows.entries c.self.invariant.joined.ids c.self.invariant.joined.unique)

pub returns-clause-out : goal.returns-clause-out
returns-clause-out c =
    subst (AllByRecursion HasOut) (ap (λ (j : JoinedState). j.served) c.self.view_is)
    (all-out c.self.inside.rows.entries c.self.invariant.joined.out)
