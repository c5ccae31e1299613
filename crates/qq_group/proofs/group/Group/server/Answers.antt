use Rattle.std.proofs.Common.{ap, sym, ◌∙◌}
use Rattle.qq_group.specs.Group.{server_by}
use Rattle.qq_group.proofs.group.Group.server.Goals as goal

pub returns-in-None : goal.returns-in-None
returns-in-None g c = ap server_by (sym c.in-None.ensures.none)

pub returns-in-Some : goal.returns-in-Some
returns-in-Some g c = c.as_ref.ensures.value ∙ ap server_by (sym c.in-Some.ensures.some)
