use Rattle.qq_raft_protocol.proofs.Runs.{acks-within, is-first}
use Rattle.qq_raft_protocol.proofs.laws.a_leader_has_all_of_its_term.Goals as goal

pub returns-clause-acks : goal.returns-clause-acks
returns-clause-acks c = acks-within

pub returns-clause-first : goal.returns-clause-first
returns-clause-first c = is-first
