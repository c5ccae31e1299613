-- The laws of sessions, of the audit of a reached queue.
use Rattle.std.proofs.Common.{ℕ, List, refl, inl}
use Rattle.std.specs.List.{AllByRecursion}
use Rattle.qq_base.proofs.Lists.{AllByRecursion-weaker}
use Rattle.qq_base.specs.Ids.{client}
use Rattle.qq_base.specs.declared.ids.SessionId.{SessionId}
use Rattle.qq_entry.specs.declared.command.Entry.{Entry}
use Rattle.qq_entry.specs.declared.queue.QueueArgs.{QueueArgs}
use Rattle.qq_laws.specs.Always.{queue_audit}
use Rattle.qq_laws.specs.Numbers.{CountsCommands}
use Rattle.qq_model.specs.Gate.{IsNumbered}
use Rattle.qq_raft_model.specs.Group.{Group}
use Rattle.qq_session.specs.Answered.{IsAnswered}
use Rattle.qq_session.specs.Printed.{IsAudited, IsConfirmedOnce}
use Rattle.qq_session.proofs.Once.{confirmed-once}
use Rattle.qq_cluster_model.specs.Laws.{IsBegun, queue_after}
use Rattle.qq_cluster_model.specs.Queue.{Event, Queue, all_said, audit_rows, begin}
use Rattle.qq_cluster_model.proofs.Groups.{KeepsCommits, KnowsCommits, reached-new}
use Rattle.qq_cluster_model.proofs.Told.{all-audited}

abbrev AnswersAll : Type 0
AnswersAll =
    (args : QueueArgs) (entries : List Entry) (session : SessionId) → IsNumbered session
    → IsAnswered session (queue_audit args entries)

pub session-answered : AnswersAll → (args : QueueArgs) (group : Group) (session : ℕ) (events : List Event)
    → IsAnswered (client session) (audit_rows (queue_after args group events))
session-answered answered args group session events =
    let q : Queue = queue_after args group events in
    answered q.args q.group.audit (client session) (inl refl)

module _ (knows : KnowsCommits) (keeps : KeepsCommits) where
  pub answers-audited : (args : QueueArgs) (group : Group) (events : List Event) → IsBegun group
      → AllByRecursion (IsAudited (audit_rows (queue_after args group events))) (all_said (begin args group) events)
  answers-audited args group events begun =
      all-audited knows keeps (begin args group) events (reached-new args group begun)

  pub confirms-once : ((args : QueueArgs) (entries : List Entry) → CountsCommands args entries) → AnswersAll
      → (args : QueueArgs) (group : Group) (events : List Event) → IsBegun group
      → AllByRecursion (IsConfirmedOnce (audit_rows (queue_after args group events)))
      (all_said (begin args group) events)
  confirms-once counts answered args group events begun =
      let q : Queue = queue_after args group events in
      AllByRecursion-weaker (IsAudited (audit_rows q)) (IsConfirmedOnce (audit_rows q))
      (λ shown is. confirmed-once q.args q.group.audit (counts q.args q.group.audit) (answered q.args q.group.audit) shown
      is) (all_said (begin args group) events) (answers-audited args group events begun)
