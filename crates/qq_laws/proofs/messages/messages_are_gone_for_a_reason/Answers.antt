use Rattle.qq_model.specs.State.{empty_queue}
use Rattle.qq_model.specs.Audit.{state_after}
use Rattle.qq_laws.proofs.Runs.{gone_for_a_reason, sound_at}
use Rattle.qq_laws.proofs.messages.messages_are_gone_for_a_reason.Goals as goal

pub returns : goal.returns
returns c = λ args before entry. gone_for_a_reason (state_after (empty_queue args) before) entry
    (sound_at args before)
