use Rattle.qq_parts.proofs.Between.{next-served}
use Rattle.qq_parts.proofs.part_steps.nobody_waits_for_what_is_ready.Goals as goal

pub returns : goal.returns
returns c = next-served
