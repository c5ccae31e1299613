use Rattle.qq_laws.proofs.OfferLemmas.{offers_in_order}
use Rattle.qq_laws.proofs.dead_letters.dead_letters_are_offered_in_order.Goals as goal

pub returns : goal.returns
returns c = offers_in_order
