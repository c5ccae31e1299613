use Rattle.qq_wal_chain.proofs.Gives.{first-all, first-ops, first-words}
use Rattle.qq_wal_chain.proofs.laws.queues_get_their_first_ops.Goals as goal

pub returns-clause-one : goal.returns-clause-one
returns-clause-one c = first-ops

pub returns-clause-each : goal.returns-clause-each
returns-clause-each c = first-all

pub returns-clause-words : goal.returns-clause-words
returns-clause-words c = first-words
