use Rattle.qq_parts.proofs.StepEnding.{ends-all}
use Rattle.qq_parts.proofs.part_steps.deliveries_end_in_order.Goals as goal

pub returns : goal.returns
returns c = λ t p outcome consumer ids it. ends-all outcome consumer ids t p it
