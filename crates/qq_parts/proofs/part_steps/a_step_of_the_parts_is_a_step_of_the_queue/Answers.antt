use Rattle.qq_parts.proofs.Stepping.{steps}
use Rattle.qq_parts.proofs.part_steps.a_step_of_the_parts_is_a_step_of_the_queue.Goals as goal

pub returns : goal.returns
returns c = steps
