use Rattle.qq_model.proofs.NextConsumer.{next-active, next-chosen, next-nobody}
use Rattle.qq_model.proofs.serving.the_next_consumer_has_credit.Goals as goal

pub returns : goal.returns
returns c = record { chosen = next-chosen; nobody = next-nobody; active = next-active }
