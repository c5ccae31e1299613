use Rattle.qq_wal_chain.proofs.Promised.{stored}
use Rattle.qq_wal_chain.proofs.laws.a_stored_batch_is_in_every_image.Goals as goal

pub returns : goal.returns
returns c = λ queues. stored queues (c.the_log_has_a_format.ensures queues)
