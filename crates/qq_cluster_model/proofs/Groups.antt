-- A queue's group is one that its events make of a new one, so each law of groups is one of it.
use Rattle.std.proofs.Common.{◌≡◌, ℕ, List, [], ◌∷◌, ◌++◌, take, refl, sym, ap, ◌∙◌, subst}
use Rattle.qq_base.specs.Fronts.{IsFront}
use Rattle.qq_entry.specs.declared.command.Entry.{Entry}
use Rattle.qq_entry.specs.declared.queue.QueueArgs.{QueueArgs}
use Rattle.qq_model.specs.Audit.{IsSerial, audit_of}
use Rattle.qq_model.specs.State.{empty_queue}
use Rattle.qq_raft_model.specs.Group.{Event as Move, Group, group_after, happens as moved}
use Rattle.qq_raft_model.specs.Promises.{AreDistinct, IsOpened, IsUp}
use Rattle.qq_raft_model.specs.State.{Server}
use Rattle.qq_session.proofs.Audits.{audit-front, audit-serial}
use Rattle.qq_cluster_model.specs.Laws.{IsBegun, KeepsAudit, all_moves, queue_after}
use Rattle.qq_cluster_model.specs.Queue.{Queue, Event, after, audit_rows, begin, happens, moves}

-- ---- what the laws of groups say

abbrev pub KnowsCommits : Type 0
KnowsCommits =
    (g : Group) (whole : List Entry) (made : List Move) (k : ℕ) (s : Server) → AreDistinct g.nodes
    → IsOpened g whole → IsUp (group_after g made) k s → IsFront (take s.commit s.log) (group_after g made).audit

abbrev pub KeepsCommits : Type 0
KeepsCommits =
    (g : Group) (whole : List Entry) (first second : List Move) → AreDistinct g.nodes → IsOpened g whole
    → IsFront (group_after g first).audit (group_after (group_after g first) second).audit

-- ---- lists of events

pub group-append : (g : Group) (first second : List Move)
    → group_after g (first ++ second) ≡ group_after (group_after g first) second
group-append g [] second = refl
group-append g (move ∷ first) second = group-append (moved move g) first second

pub group-is : (q : Queue) (events : List Event) → (after q events).group ≡ group_after q.group (all_moves q events)
group-is q [] = refl
group-is q (event ∷ events) =
    group-is (happens q event) events
    ∙ sym (group-append q.group (moves q event) (all_moves (happens q event) events))

pub args-are : (q : Queue) (events : List Event) → (after q events).args ≡ q.args
args-are q [] = refl
args-are q (event ∷ events) = args-are (happens q event) events

pub after-append : (q : Queue) (first second : List Event) → after q (first ++ second) ≡ after (after q first) second
after-append q [] second = refl
after-append q (event ∷ first) second = after-append (happens q event) first second

-- ---- reached queues

pub record Reached (q : Queue) : Type 0 where
  pub start : Group
  pub begun : IsBegun start
  pub made : List Move
  pub is : q.group ≡ group_after start made

pub reached-new : (args : QueueArgs) (group : Group) → IsBegun group → Reached (begin args group)
reached-new args group begun = record { start = group; begun = begun; made = []; is = refl }

pub reached-next : (q : Queue) (event : Event) → Reached q → Reached (happens q event)
reached-next q event r = record {
  start = r.start;
  begun = r.begun;
  made = r.made ++ moves q event;
  is = ap (λ (g : Group). group_after g (moves q event)) r.is
      ∙ sym (group-append r.start r.made (moves q event));
}

pub reached-all : (q : Queue) (events : List Event) → Reached q → Reached (after q events)
reached-all q [] r = r
reached-all q (event ∷ events) r = reached-all (happens q event) events (reached-next q event r)

-- what a member knows to be committed begins the group's entries
pub known-in : KnowsCommits → (q : Queue) → Reached q → (k : ℕ) (s : Server) → IsUp q.group k s
    → IsFront (take s.commit s.log) q.group.audit
known-in knows q r k s up =
    subst (λ (g : Group). IsFront (take s.commit s.log) g.audit) (sym r.is)
    (knows r.start r.begun.whole r.made k s r.begun.distinct r.begun.opened (subst (λ (g : Group). IsUp g k s) r.is up))

-- ---- audits

entries-grow : KeepsCommits → (q : Queue) (made : List Move) → Reached q
    → IsFront q.group.audit (group_after q.group made).audit
entries-grow keeps q made r =
    subst (λ (g : Group). IsFront g.audit (group_after g made).audit) (sym r.is)
    (keeps r.start r.begun.whole r.made made r.begun.distinct r.begun.opened)

pub commits-grow : KeepsCommits → (q : Queue) (events : List Event) → Reached q
    → IsFront q.group.audit (after q events).group.audit
commits-grow keeps q events r =
    subst (λ (g : Group). IsFront q.group.audit g.audit) (sym (group-is q events))
    (entries-grow keeps q (all_moves q events) r)

pub audit-grows : KeepsCommits → (q : Queue) (events : List Event) → Reached q → KeepsAudit q events
audit-grows keeps q events r =
    subst (λ (args : QueueArgs). IsFront (audit_of (empty_queue q.args) q.group.audit)
    (audit_of (empty_queue args) (after q events).group.audit)) (sym (args-are q events))
    (audit-front (empty_queue q.args) q.group.audit (after q events).group.audit (commits-grow keeps q events r))

pub serial-after : (args : QueueArgs) (group : Group) (events : List Event)
    → IsSerial (empty_queue args) (audit_rows (queue_after args group events))
serial-after args group events =
    let q : Queue = queue_after args group events in
    subst (λ (own : QueueArgs). IsSerial (empty_queue own) (audit_of (empty_queue q.args) q.group.audit))
    (args-are (begin args group) events) (audit-serial (empty_queue q.args) q.group.audit)
