use Rattle.std.proofs.Common.{ap, ◌∙◌}
use Rattle.qq_consumer.specs.Joined.{JoinedState, bases_of, base_one, undone}
use Rattle.qq_consumer.proofs.GoingBack.{none-changed}
use Rattle.qq_consumer.proofs.joined.Joined.commit.Goals as goal

pub returns-clause-base : goal.returns-clause-base
returns-clause-base c =
    ap (λ js. undone base_one js (bases_of c.commit_seats.new.rows.entries)) c.clear.ensures.items
    ∙ none-changed c.commit_seats.new.rows.entries c.commit_seats.ensures.tracked
    ∙ c.commit_seats.ensures.ones ∙ ap (λ (j : JoinedState). j.served) c.self.view_is
