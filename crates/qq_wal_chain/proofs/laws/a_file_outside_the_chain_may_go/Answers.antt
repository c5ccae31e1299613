use Rattle.qq_wal_chain.specs.Wal.{wal}
use Rattle.qq_wal_chain.specs.Records.{encode_all}
use Rattle.qq_wal_chain.proofs.Promised.{remove-promised}
use Rattle.qq_wal_chain.proofs.Calls.{remove-done}
use Rattle.qq_wal_chain.proofs.laws.a_file_outside_the_chain_may_go.Goals as goal

pub returns-clause-moments : goal.returns-clause-moments
returns-clause-moments c = λ queues. remove-promised queues (c.the_log_has_a_format.ensures queues)

pub returns-clause-log : goal.returns-clause-log
returns-clause-log c = λ queues bound n m h before kept pending d e running apart outside r. record {
  log = remove-done (wal queues) (c.the_log_has_a_format.ensures queues) bound n h before kept
      (encode_all (wal queues) n pending)
      d running.log m apart outside e r;
  fit = running.fit;
}
