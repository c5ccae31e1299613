use Rattle.qq_raft_model.proofs.Counting.{acks-within}
use Rattle.qq_raft_model.proofs.laws.a_leader_keeps_to_its_log.Goals as goal

pub returns-clause-within : goal.returns-clause-within
returns-clause-within c = λ w k s st leads. st.within leads

pub returns-clause-itself : goal.returns-clause-itself
returns-clause-itself c = λ w k s st leads. st.itself leads

pub returns-clause-acks : goal.returns-clause-acks
returns-clause-acks c = λ members w k s x reached st leads here same.
    acks-within {members = members} x reached st leads here same
