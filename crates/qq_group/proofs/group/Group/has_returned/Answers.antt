use Rattle.std.proofs.Common.{ap, sym, ◌∙◌}
use Rattle.qq_group.specs.Handing.{has_returned}
use Rattle.qq_group.proofs.group.Group.has_returned.Goals as goal

pub returns-in-None : goal.returns-in-None
returns-in-None g c = ap has_returned (sym c.in-None.ensures.none)

pub returns-in-Some : goal.returns-in-Some
returns-in-Some g c = c.has_returned.ensures ∙ ap has_returned (sym c.in-Some.ensures.some)
