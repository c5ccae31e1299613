use Rattle.qq_model.specs.State.{empty_queue}
use Rattle.qq_model.specs.Audit.{state_after}
use Rattle.qq_laws.proofs.Steps.{next_stepped}
use Rattle.qq_laws.proofs.Runs.{sound_at}
use Rattle.qq_laws.proofs.messages.entries_move_messages.Goals as goal

pub returns : goal.returns
returns c =
    λ args before entry. (next_stepped (state_after (empty_queue args) before) entry (sound_at args before)).rows
