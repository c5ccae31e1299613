use Rattle.qq_wal_chain.specs.Wal.{wal}
use Rattle.qq_wal_chain.specs.Laws.{op_records}
use Rattle.qq_wal_chain.proofs.Calls.{sync-done, sync-holds, sync-noticed}
use Rattle.qq_wal_chain.proofs.laws.what_is_synced_may_be_noticed.Goals as goal

pub returns-clause-noticed : goal.returns-clause-noticed
returns-clause-noticed c = λ queues bound n h before kept pending noticed given d e running keeps holds same.
    sync-noticed (wal queues) (c.the_log_has_a_format.ensures queues) bound n h before kept pending d running.log
    running.fit
    (op_records noticed) (op_records given) e keeps holds same

pub returns-clause-log : goal.returns-clause-log
returns-clause-log c = λ queues bound n h before kept pending d e running same. record {
  log = sync-done (wal queues) (c.the_log_has_a_format.ensures queues) bound n h before kept pending d running.log
      running.fit e
      same;
  fit = tt;
}

pub returns-clause-holds : goal.returns-clause-holds
returns-clause-holds c = λ queues bound n h before kept pending given d e running holds same. sync-holds
    (wal queues) (c.the_log_has_a_format.ensures queues) bound n h before kept pending d running.log running.fit
    (op_records given) e
    holds same
