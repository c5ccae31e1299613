use Rattle.std.proofs.Common.{ap, sym, ◌∙◌}
use Rattle.qq_group.specs.Handing.{takes_back}
use Rattle.qq_group.proofs.group.Group.takes_back.Goals as goal

pub returns-in-None : goal.returns-in-None
returns-in-None g c = ap takes_back (sym c.in-None.ensures.none)

pub returns-in-Some : goal.returns-in-Some
returns-in-Some g c = c.takes_back.ensures ∙ ap takes_back (sym c.in-Some.ensures.some)
