use Rattle.qq_parts.proofs.Commanding.{acts, drains-after}
use Rattle.qq_parts.proofs.part_steps.commands_follow.Goals as goal

pub returns : goal.returns
returns c = record { acted = acts; drained = drains-after }
