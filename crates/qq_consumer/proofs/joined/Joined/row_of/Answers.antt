use Rattle.std.proofs.Common.{ap, ◌∙◌, subst}
use Rattle.qq_parts.specs.Parts.{AreApart}
use Rattle.std.specs.Option.{option_map}
use Rattle.qq_consumer.specs.Roster.{one_of}
use Rattle.qq_consumer.specs.Joined.{JoinedState, seat_one}
use Rattle.qq_consumer.proofs.JoinedRows.{one_of-lookup, apart-distinct}
use Rattle.qq_consumer.proofs.joined.Joined.row_of.Goals as goal

pub returns-in-None-clause-value : goal.returns-in-None-clause-value
returns-in-None-clause-value c =
    ap (option_map seat_one) c.in-None.ensures.value
    ∙ one_of-lookup c.args.id c.self.inside.rows.entries c.self.invariant.joined.ids
    ∙ ap (λ (j : JoinedState). one_of c.args.id j.served) c.self.view_is

pub returns-in-None-clause-apart : goal.returns-in-None-clause-apart
returns-in-None-clause-apart c =
    subst AreApart (ap (λ (j : JoinedState). j.served) c.self.view_is)
    (apart-distinct c.self.inside.rows.entries c.self.invariant.joined.ids c.self.invariant.joined.unique)

pub returns-in-Some-clause-value : goal.returns-in-Some-clause-value
returns-in-Some-clause-value c =
    ap (option_map seat_one) c.in-Some.ensures.value
    ∙ one_of-lookup c.args.id c.self.inside.rows.entries c.self.invariant.joined.ids
    ∙ ap (λ (j : JoinedState). one_of c.args.id j.served) c.self.view_is

pub returns-in-Some-clause-apart : goal.returns-in-Some-clause-apart
returns-in-Some-clause-apart c =
    subst AreApart (ap (λ (j : JoinedState). j.served) c.self.view_is)
    (apart-distinct c.self.inside.rows.entries c.self.invariant.joined.ids c.self.invariant.joined.unique)
