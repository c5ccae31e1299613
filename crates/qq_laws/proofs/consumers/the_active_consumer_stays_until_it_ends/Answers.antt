use Rattle.qq_laws.proofs.OrderLaws.{active_stays, first_is_active}
use Rattle.qq_laws.proofs.consumers.the_active_consumer_stays_until_it_ends.Goals as goal

pub returns-clause-first : goal.returns-clause-first
returns-clause-first c = first_is_active

pub returns-clause-stays : goal.returns-clause-stays
returns-clause-stays c = active_stays
