use Rattle.std.proofs.Common.{refl}
use Rattle.qq_disk.specs.Disk.{now}
use Rattle.qq_wal_chain.specs.Wal.{wal}
use Rattle.qq_wal_chain.specs.Laws.{op_records}
use Rattle.qq_wal_chain.proofs.Calls.{begin-done, begin-holds, begin-stays}
use Rattle.qq_wal_chain.proofs.laws.a_new_file_keeps_the_promise.Goals as goal

pub returns-clause-moments : goal.returns-clause-moments
returns-clause-moments c = λ queues bound n before h carries old new goes_on a. begin-stays (wal queues)
    (c.the_log_has_a_format.ensures queues) bound before n h carries (now old) goes_on old new refl a

pub returns-clause-log : goal.returns-clause-log
returns-clause-log c = λ queues bound n before h carries d mid e goes_on first second. record {
  log = begin-done (wal queues) (c.the_log_has_a_format.ensures queues) bound before n h carries d goes_on mid e first
      second;
  fit
      = tt;
}

pub returns-clause-holds : goal.returns-clause-holds
returns-clause-holds c = λ queues bound n before h carries given d mid e goes_on holds first second. begin-holds
    (wal queues) (c.the_log_has_a_format.ensures queues) bound before n h carries d goes_on (op_records given) mid e
    holds first second
