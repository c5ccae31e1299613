use Rattle.qq_laws.proofs.OfferLemmas.{is_given_all}
use Rattle.qq_laws.proofs.dead_letters.the_worker_is_given_the_dead.Goals as goal

pub returns : goal.returns
returns c = is_given_all
