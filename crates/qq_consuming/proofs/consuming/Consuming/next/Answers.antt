use Rattle.std.proofs.Common.{subst, sym, ◌∙◌}
use Rattle.qq_consuming.specs.Received.{IsReceived}
use Rattle.qq_consuming.proofs.ReceivedLemmas.{next-arrived}
use Rattle.qq_consuming.proofs.KeptLemmas.{popped-kept}
use Rattle.qq_consuming.proofs.consuming.Consuming.next.Goals as goal

pub returns-then-not-there-clause-arrived : goal.returns-then-not-there-clause-arrived
returns-then-not-there-clause-arrived c =
    sym c.if-not-there.true ∙ c.has_next-there.ensures
    ∙ next-arrived c.args.self.now (subst IsReceived c.self.view_is c.self.invariant.received)

pub invariant_of-self-in-Some : goal.invariant_of-self-in-Some
invariant_of-self-in-Some c = popped-kept _ _ _ _ c.self.invariant c.in-Some.ensures.removal
