use Rattle.std.proofs.Common.{ap, sym, ◌∙◌}
use Rattle.qq_group.specs.Events.{lacks_by}
use Rattle.qq_group.proofs.group.Group.lacks_op.Goals as goal

pub returns-in-None : goal.returns-in-None
returns-in-None g c = ap (lacks_by c.args.op) (sym c.in-None.ensures.none)

pub returns-in-Some : goal.returns-in-Some
returns-in-Some g c = c.lacks_op.ensures ∙ ap (lacks_by c.args.op) (sym c.in-Some.ensures.some)
