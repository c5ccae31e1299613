use Rattle.qq_wal_chain.specs.Wal.{wal}
use Rattle.qq_wal_chain.proofs.Calls.{running-settled}
use Rattle.qq_wal_chain.proofs.laws.a_synced_log_is_settled.Goals as goal

pub returns : goal.returns
returns c = λ queues bound n h before kept d running. running-settled (wal queues)
    (c.the_log_has_a_format.ensures queues) bound
    n h before kept d running.log
