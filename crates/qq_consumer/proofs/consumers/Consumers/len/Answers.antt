use Rattle.std.proofs.Common.{ap, subst}
use Rattle.qq_consumer.specs.Roster.{ConsumersState}
use Rattle.qq_consumer.specs.Turns.{HaveTurns}
use Rattle.qq_consumer.proofs.Restoring.{kept-turns}
use Rattle.qq_consumer.proofs.consumers.Consumers.len.Goals as goal

pub returns-clause-turns : goal.returns-clause-turns
returns-clause-turns c =
    subst HaveTurns (ap (λ (s : ConsumersState). s.roster) c.self.view_is)
    (kept-turns c.self.inside.joined.served c.self.inside.turns c.self.inside.waiting.items c.len.ensures.apart
    c.self.invariant.now_kept)
