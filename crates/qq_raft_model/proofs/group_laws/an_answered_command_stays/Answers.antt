use Rattle.qq_raft_protocol.specs.Moves.{run}
use Rattle.qq_raft_model.specs.Group.{group_after}
use Rattle.qq_raft_model.proofs.Opening.{follows-opened, opening}
use Rattle.qq_raft_model.proofs.Promises.{answered}
use Rattle.qq_raft_model.proofs.group_laws.an_answered_command_stays.Goals as goal

pub returns : goal.returns
returns c = λ g whole first second k p time command s t distinct o up ready there leads same reaches.
    let f = follows-opened g whole first distinct o in
    answered (run (opening g whole) f.moves) (group_after g first) k time command second p s t distinct f.tied up ready
    there leads same reaches
