use Rattle.qq_parts.proofs.Reading.{reads}
use Rattle.qq_parts.proofs.parts.parts_tell_the_queue.Goals as goal

pub returns : goal.returns
returns c = reads
