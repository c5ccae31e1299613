use Rattle.qq_model.proofs.Soundness.{is_sound}
use Rattle.qq_model.proofs.sound.queues_are_sound.Goals as goal

pub returns : goal.returns
returns c = is_sound
