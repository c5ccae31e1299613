use Rattle.qq_consuming.proofs.HistoryLaws.{next-there}
use Rattle.qq_consuming.proofs.laws.the_next_delivery_is_there_once_it_arrives.Goals as goal

pub returns : goal.returns
returns c = next-there
