use Rattle.qq_parts.proofs.AtOnce.{goes_first, nobody_goes}
use Rattle.qq_parts.proofs.part_steps.consumers_may_go_one_by_one.Goals as goal

pub returns : goal.returns
returns c = record { first = goes_first; over = nobody_goes }
