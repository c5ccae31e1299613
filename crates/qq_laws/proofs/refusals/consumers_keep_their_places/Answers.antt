use Rattle.qq_laws.proofs.PlaceLemmas.{begins_to_wait}
use Rattle.qq_laws.proofs.refusals.consumers_keep_their_places.Goals as goal

pub returns : goal.returns
returns c = begins_to_wait
