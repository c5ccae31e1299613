use Rattle.std.proofs.Common.{subst, sym}
use Rattle.qq_raft_core.specs.Raft.{server_of}
use Rattle.qq_raft.specs.Stands.{Does, IsLeftBy, IsRefused}
use Rattle.qq_group.specs.Input.{acts}
use Rattle.qq_group.specs.declared.input.Input.{Input}
use Rattle.qq_group.proofs.Inputs.{refused-adds, refused-does}
use Rattle.qq_group.proofs.input.act.Goals as goal

pub returns-in-Err-NotLeader-clause-ok : goal.returns-in-Err-NotLeader-clause-ok
returns-in-Err-NotLeader-clause-ok g c =
    let log = g.L.LogView.log in
    let refused = c.in-Err-NotLeader in
    let old = c.args.server.now in
    let new = c.submit.new.self in
    subst (λ (i : Input). Does g.Q.Queue.stands log (acts g.Q.Queue.step i) old new) (sym c.in-Submit.is)
    (refused-does g.Q.Queue.stands log c.in-Submit.time c.in-Submit.command old new
    (subst (IsLeftBy log old new) refused.field-0-is refused.ensures.err)
    (subst (IsRefused (server_of log old.raft)) refused.field-0-is refused.ensures.cause).0)

pub returns-in-Err-NotLeader-add-clause-ok : goal.returns-in-Err-NotLeader-add-clause-ok
returns-in-Err-NotLeader-add-clause-ok g c =
    let log = g.L.LogView.log in
    let refused = c.in-Err-NotLeader-add in
    let old = c.args.server.now in
    let new = c.add.new.self in
    subst (λ (i : Input). Does g.Q.Queue.stands log (acts g.Q.Queue.step i) old new) (sym c.in-Add.is)
    (refused-adds g.Q.Queue.stands log c.in-Add.time c.in-Add.command old new
    (subst (IsLeftBy log old new) refused.field-0-is refused.ensures.err)
    (subst (IsRefused (server_of log old.raft)) refused.field-0-is refused.ensures.cause).0)
