use Rattle.std.proofs.Common.{List, sym, subst}
use Rattle.qq_base.specs.Fronts.{IsFront}
use Rattle.qq_entry.specs.declared.command.Entry.{Entry}
use Rattle.qq_raft_core.specs.Raft.{server_of}
use Rattle.qq_raft_protocol.specs.Facts.{add}
use Rattle.qq_raft_model.specs.Group.{Event, Group, group_after, happens}
use Rattle.qq_raft_model.specs.Promises.{IsUp}
use Rattle.qq_group.proofs.Promises.{up-in}
use Rattle.qq_group.proofs.laws.an_answered_command_is_in_the_audit.Goals as goal

pub returns : goal.returns
returns g c = λ h events old new k p time command s t reached before after up ready there leads same reaches.
    let log = g.L.LogView.log in
    let mine = server_of log s.raft in
    let theirs = server_of log t.raft in
    let e : Entry = record { term = s.raft.term; time = time; command = command } in
    subst (λ (a : List Entry). IsFront (add mine.log e) a) after.audit
    (subst (λ (x : Group). IsFront (add mine.log e) (group_after (happens (Event.Submit k time command) x) events).audit)
    (sym reached.is)
    (c.an_answered_command_stays.ensures reached.start reached.whole reached.events events k p time command mine theirs
    reached.distinct reached.opened (subst (λ (x : Group). IsUp x k mine) reached.is (up-in log h k s old before up)) ready
    (subst (λ (x : Group). IsUp (group_after (happens (Event.Submit k time command) x) events) p theirs) reached.is
    (up-in log (group_after (happens (Event.Submit k time command) h) events) p t new after there)) leads same reaches))
