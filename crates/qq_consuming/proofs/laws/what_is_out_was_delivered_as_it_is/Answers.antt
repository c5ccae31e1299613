use Rattle.qq_consuming.proofs.FetchedLemmas.{out-delivered}
use Rattle.qq_consuming.proofs.laws.what_is_out_was_delivered_as_it_is.Goals as goal

pub returns : goal.returns
returns c = out-delivered c.what_is_out_was_delivered.ensures
