use Rattle.qq_model.specs.State.{empty_queue}
use Rattle.qq_model.specs.Audit.{state_after}
use Rattle.qq_laws.proofs.Runs.{after-lasts, sound_at}
use Rattle.qq_laws.proofs.messages.messages_last.Goals as goal

pub returns : goal.returns
returns c = λ args before after. after-lasts (state_after (empty_queue args) before) after (sound_at args before)
