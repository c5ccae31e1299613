use Rattle.qq_raft_model.proofs.Agreeing.{one-leader, one-history, still-reached}
use Rattle.qq_raft_model.proofs.laws.servers_that_stand_agree.Goals as goal

pub returns-clause-leader : goal.returns-clause-leader
returns-clause-leader c = λ members w p q s t reached first second leads other same.
    one-leader {members = members} reached first second leads other same

pub returns-clause-committed : goal.returns-clause-committed
returns-clause-committed c = λ members w p q s t reached first second le.
    one-history {members = members} reached first second le

pub returns-clause-later : goal.returns-clause-later
returns-clause-later c = λ members w k s reached r. still-reached reached r
