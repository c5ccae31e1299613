use Rattle.qq_wal_chain.specs.Wal.{wal}
use Rattle.qq_wal_chain.proofs.Honest.{cut-honest}
use Rattle.qq_wal_chain.proofs.laws.a_cut_image_is_honest.Goals as goal

pub returns : goal.returns
returns c = λ queues n. cut-honest (wal queues) (c.the_log_has_a_format.ensures queues) n
