use Rattle.qq_laws.proofs.ActiveWaits.{active_does_not_wait}
use Rattle.qq_laws.proofs.consumers.the_active_consumer_never_waits_in_vain.Goals as goal

pub returns : goal.returns
returns c = active_does_not_wait
