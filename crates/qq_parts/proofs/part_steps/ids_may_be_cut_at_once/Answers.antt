use Rattle.qq_parts.proofs.AtOnce.{finishes_at_once}
use Rattle.qq_parts.proofs.part_steps.ids_may_be_cut_at_once.Goals as goal

pub returns : goal.returns
returns c = finishes_at_once
