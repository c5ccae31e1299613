use Rattle.qq_wal_chain.proofs.Promised.{append-given, append-promised, append-runs}
use Rattle.qq_wal_chain.proofs.laws.an_append_keeps_the_promise.Goals as goal

pub returns-clause-moments : goal.returns-clause-moments
returns-clause-moments c = λ queues. append-promised queues (c.the_log_has_a_format.ensures queues)

pub returns-clause-log : goal.returns-clause-log
returns-clause-log c = λ queues. append-runs queues (c.the_log_has_a_format.ensures queues)

pub returns-clause-holds : goal.returns-clause-holds
returns-clause-holds c = λ queues. append-given queues (c.the_log_has_a_format.ensures queues)
