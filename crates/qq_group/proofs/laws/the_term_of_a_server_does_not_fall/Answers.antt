use Rattle.qq_raft_core.specs.Raft.{server_of}
use Rattle.qq_raft_model.specs.Group.{happens}
use Rattle.qq_group.proofs.Promises.{up-in}
use Rattle.qq_group.proofs.laws.the_term_of_a_server_does_not_fall.Goals as goal

pub returns : goal.returns
returns g c = λ h e old new k s t before after up there.
    let log = g.L.LogView.log in
    c.a_term_does_not_fall.ensures h e k (server_of log s.raft) (server_of log t.raft) (up-in log h k s old before up)
    (up-in log (happens e h) k t new after there)
