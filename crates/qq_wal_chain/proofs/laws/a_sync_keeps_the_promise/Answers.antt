use Rattle.qq_wal_chain.specs.Wal.{wal}
use Rattle.qq_wal_chain.proofs.Calls.{sync-stays}
use Rattle.qq_wal_chain.proofs.laws.a_sync_keeps_the_promise.Goals as goal

pub returns : goal.returns
returns c = λ queues bound. sync-stays (wal queues) (c.the_log_has_a_format.ensures queues) bound
