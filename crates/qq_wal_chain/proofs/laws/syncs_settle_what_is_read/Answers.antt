use Rattle.qq_wal_chain.specs.Wal.{wal}
use Rattle.qq_wal_chain.specs.Laws.{op_records}
use Rattle.qq_wal_chain.proofs.Promised.{settles}
use Rattle.qq_wal_chain.proofs.Settling.{shown-sync_all, sync_all-steady}
use Rattle.qq_wal_chain.proofs.laws.syncs_settle_what_is_read.Goals as goal

pub returns-clause-steady : goal.returns-clause-steady
returns-clause-steady c = λ queues bound noticed given d names listing keeps.
    sync_all-steady (wal queues) (c.the_log_has_a_format.ensures queues) bound (op_records noticed)
    (op_records given) d
    names listing
    keeps

pub returns-clause-shows : goal.returns-clause-shows
returns-clause-shows c = shown-sync_all

pub returns-clause-ops : goal.returns-clause-ops
returns-clause-ops c = λ queues. settles queues (c.the_log_has_a_format.ensures queues)
