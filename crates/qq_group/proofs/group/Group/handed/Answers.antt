use Rattle.std.proofs.Common.{ap, sym, ◌∙◌}
use Rattle.qq_group.specs.Reads.{handed_at}
use Rattle.qq_group.proofs.group.Group.handed.Goals as goal

pub returns-in-None : goal.returns-in-None
returns-in-None g c = ap handed_at (sym c.in-None.ensures.none)

pub returns-in-Some : goal.returns-in-Some
returns-in-Some g c = c.handed_up.ensures ∙ ap handed_at (sym c.in-Some.ensures.some)
