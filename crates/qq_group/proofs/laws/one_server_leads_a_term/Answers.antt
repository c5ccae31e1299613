use Rattle.std.proofs.Common.{subst}
use Rattle.qq_raft_core.specs.Raft.{server_of}
use Rattle.qq_raft_model.specs.Group.{Group, group_after}
use Rattle.qq_raft_model.specs.Promises.{IsUp}
use Rattle.qq_group.proofs.Promises.{up-in}
use Rattle.qq_group.proofs.laws.one_server_leads_a_term.Goals as goal

pub returns : goal.returns
returns g c = λ h events old new p q s t reached before after up there leads other same.
    let log = g.L.LogView.log in
    c.a_term_has_one_leader.ensures reached.start reached.whole reached.events events p q (server_of log s.raft)
    (server_of log t.raft) reached.distinct reached.opened
    (subst (λ (x : Group). IsUp x p (server_of log s.raft)) reached.is (up-in log h p s old before up))
    (subst (λ (x : Group). IsUp (group_after x events) q (server_of log t.raft)) reached.is
    (up-in log (group_after h events) q t new after there)) leads other same
