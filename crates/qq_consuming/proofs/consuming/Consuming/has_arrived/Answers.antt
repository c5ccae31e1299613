use Rattle.std.proofs.Common.{ap, ◌∙◌}
use Rattle.qq_consuming.specs.Consuming.{has_arrived}
use Rattle.qq_consuming.proofs.KeptLemmas.{waits-found}
use Rattle.qq_consuming.proofs.consuming.Consuming.has_arrived.Goals as goal

pub returns-else-id-self : goal.returns-else-id-self
returns-else-id-self c =
    c.contains_key.ensures ∙ waits-found c.args.id _ _ c.self.invariant c.if-id-self.false
    ∙ ap (has_arrived c.args.id) c.self.view_is
