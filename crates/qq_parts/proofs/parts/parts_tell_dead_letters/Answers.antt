use Rattle.qq_parts.proofs.Burying.{tells_dead}
use Rattle.qq_parts.proofs.parts.parts_tell_dead_letters.Goals as goal

pub returns : goal.returns
returns c = tells_dead
