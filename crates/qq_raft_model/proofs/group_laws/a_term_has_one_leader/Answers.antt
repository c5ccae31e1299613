use Rattle.qq_raft_protocol.specs.Moves.{run}
use Rattle.qq_raft_model.specs.Group.{group_after}
use Rattle.qq_raft_model.proofs.Opening.{follows-opened, opening}
use Rattle.qq_raft_model.proofs.Promises.{one-leader}
use Rattle.qq_raft_model.proofs.group_laws.a_term_has_one_leader.Goals as goal

pub returns : goal.returns
returns c = λ g whole first second p q s t distinct o up there leads other same.
    let f = follows-opened g whole first distinct o in
    one-leader (run (opening g whole) f.moves) (group_after g first) second p q s t distinct f.tied up there leads
    other same
