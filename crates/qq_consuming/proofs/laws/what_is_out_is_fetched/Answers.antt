use Rattle.qq_consuming.proofs.OutLemmas.{out-fetched}
use Rattle.qq_consuming.proofs.laws.what_is_out_is_fetched.Goals as goal

pub returns : goal.returns
returns c = out-fetched c.queues_are_sound.ensures
