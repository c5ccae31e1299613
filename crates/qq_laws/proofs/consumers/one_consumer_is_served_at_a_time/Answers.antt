use Rattle.qq_laws.proofs.ActiveLemmas.{one_alone}
use Rattle.qq_laws.proofs.consumers.one_consumer_is_served_at_a_time.Goals as goal

pub returns : goal.returns
returns c = one_alone
