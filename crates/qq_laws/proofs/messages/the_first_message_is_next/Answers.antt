use Rattle.qq_laws.proofs.Turns.{first_is_next}
use Rattle.qq_laws.proofs.messages.the_first_message_is_next.Goals as goal

pub returns : goal.returns
returns c = first_is_next
