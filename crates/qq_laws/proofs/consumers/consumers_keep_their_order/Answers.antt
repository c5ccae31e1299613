use Rattle.qq_laws.proofs.OrderLemmas.{join_last}
use Rattle.qq_laws.proofs.OrderLaws.{go_on_in_order}
use Rattle.qq_laws.proofs.consumers.consumers_keep_their_order.Goals as goal

pub returns-clause-all : goal.returns-clause-all
returns-clause-all c = join_last

pub returns-clause-going : goal.returns-clause-going
returns-clause-going c = go_on_in_order
