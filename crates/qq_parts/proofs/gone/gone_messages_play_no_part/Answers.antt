use Rattle.qq_parts.proofs.Steps.{steps_alike, goes_on_alike}
use Rattle.qq_parts.proofs.gone.gone_messages_play_no_part.Goals as goal

pub returns : goal.returns
returns c = record { step = steps_alike; later = goes_on_alike }
