use Rattle.std.proofs.Common.{sym, subst}
use Rattle.qq_consuming.specs.Consuming.{IsLeastMissing}
use Rattle.qq_consuming.proofs.ReceivedLemmas.{missing-least}
use Rattle.qq_consuming.proofs.consuming.Consuming.missing.Goals as goal

pub returns-clause-least : goal.returns-clause-least
returns-clause-least c =
    subst (λ (id : _). IsLeastMissing id c.args.self.now) (sym c.first_missing.ensures.value)
    (missing-least c.args.self.now c.first_missing.ensures.received)
