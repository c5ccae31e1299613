use Rattle.std.proofs.Common.{ap, subst, ◌∙◌}
use Rattle.qq_consuming.specs.Consuming.{missing}
use Rattle.qq_consuming.specs.Received.{IsReceived}
use Rattle.qq_consuming.proofs.KeptLemmas.{keys-below, keys-missing}
use Rattle.qq_consuming.proofs.consuming.Consuming.first_missing.Goals as goal

pub loop-key-init : goal.loop-key-init
loop-key-init c =
    record {
      same = keys-missing _ _ c.self.invariant _
          (c.into_iter-key-iterator.ensures.into_iter_gives ∙ c.keys-key-items.ensures.rest)
          ∙ ap missing c.self.view_is;
      within = c.self.invariant.within;
      below = keys-below _ _ c.self.invariant _
          (c.into_iter-key-iterator.ensures.into_iter_gives ∙ c.keys-key-items.ensures.rest);
    }

pub returns-then-key-id-clause-received : goal.returns-then-key-id-clause-received
returns-then-key-id-clause-received c = subst IsReceived c.self.view_is c.self.invariant.received

pub returns-clause-received : goal.returns-clause-received
returns-clause-received c = subst IsReceived c.self.view_is c.self.invariant.received
