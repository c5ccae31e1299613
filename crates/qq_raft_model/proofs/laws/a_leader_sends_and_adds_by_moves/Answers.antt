use Rattle.qq_raft_model.proofs.Adding.{add-refines, flush-refines, leader_tick-refines, submit-refines}
use Rattle.qq_raft_model.proofs.laws.a_leader_sends_and_adds_by_moves.Goals as goal

pub returns-clause-tick : goal.returns-clause-tick
returns-clause-tick c = λ members w k s reached st e.
    leader_tick-refines reached st e

pub returns-clause-submit : goal.returns-clause-submit
returns-clause-submit c = λ members w k s time command reached st.
    submit-refines time command reached st

pub returns-clause-add : goal.returns-clause-add
returns-clause-add c = λ members w k s time command st. add-refines time command st

pub returns-clause-flush : goal.returns-clause-flush
returns-clause-flush c = λ members w k s reached st. flush-refines reached st
