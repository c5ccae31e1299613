use Rattle.std.proofs.Common.{sym, ap, ◌∙◌}
use Rattle.qq_consuming.specs.Consuming.{arrive, has_arrived}
use Rattle.qq_consuming.proofs.KeptLemmas.{inserted-kept, inserted-arrive}
use Rattle.qq_consuming.proofs.consuming.Consuming.arrive.Goals as goal

pub invariant_of-self-2 : goal.invariant_of-self-2
invariant_of-self-2 c =
    inserted-kept _ c.args.delivery _ _ c.self.invariant
    (ap (has_arrived c.args.delivery.id) c.self.view_is ∙ sym c.has_arrived.ensures ∙ c.if-has_arrived.false)
    c.if-delivery-ge-NUMBER_END.false c.in_ok-insert.ensures.entries

pub returns-clause-ok : goal.returns-clause-ok
returns-clause-ok c =
    inserted-arrive _ c.args.delivery _ _ c.self.invariant
    (ap (has_arrived c.args.delivery.id) c.self.view_is ∙ sym c.has_arrived.ensures ∙ c.if-has_arrived.false)
    c.in_ok-insert.ensures.entries
    ∙ ap (arrive c.args.delivery) c.self.view_is
