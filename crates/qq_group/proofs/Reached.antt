-- What holds of a group that events lead to.
use Rattle.std.proofs.Common.{◌≡◌, ℕ, leb, Option, None, List, [], ◌∷◌, ◌++◌, length, take, drop, Some, refl, sym, ap, subst, ◌∙◌, ◌⊎◌, ◌<◌, ◌≤◌, arith, inl, inr, append-nil}
use Rattle.std.proofs.lemmas.Bool.{cases_lt, cond_both, lt-ltb, le-ltb}
use Rattle.std.proofs.Math.Seq.{drop-append_seam}
use Rattle.std.proofs.Math.ListN.{drop_of_length-le}
use Rattle.qq_base.specs.Fronts.{IsFront}
use Rattle.qq_base.proofs.Fronts.{front-shorter}
use Rattle.qq_entry.specs.declared.command.Entry.{Entry}
use Rattle.qq_base.specs.declared.ids.NodeId.{NodeId}
use Rattle.qq_raft_protocol.specs.Moves.{longer}
use Rattle.qq_raft_protocol.specs.Safe.{IsSupported}
use Rattle.qq_log.specs.Stable.{Stable, stable}
use Rattle.qq_log.specs.declared.op.Op.{Op}
use Rattle.qq_raft_msg.specs.Rpc.{envelope}
use Rattle.qq_raft_msg.specs.declared.rpc.Rpc.{Rpc}
use Rattle.qq_raft_model.specs.Server.{Input}
use Rattle.qq_raft_model.specs.State.{Server}
use Rattle.qq_raft_model.specs.Group.{Event, Group, deliver_by, feed, feed_by, group_after, happens, may_restart, restart_by, take_by, take_op}
use Rattle.qq_raft_model.specs.Group.Event.{Tick, Submit, Add, Flush, Deliver, Lose, Copy, Take, Notice, Crash, Restart}
use Rattle.qq_raft_model.specs.Promises.{AreDistinct, IsLeft, IsOpened, IsUp, members_of, whole_audit}
use Rattle.qq_group.specs.Group.{IsReached}
use Rattle.qq_group.specs.Step.{extended}

after-append : (g : Group) (xs ys : List Event) → group_after g (xs ++ ys) ≡ group_after (group_after g xs) ys
after-append g [] ys = refl
after-append g (e ∷ xs) ys = after-append (happens e g) xs ys

-- further events lead on
pub reached-after : (g : Group) (more : List Event) → IsReached g → IsReached (group_after g more)
reached-after g more r = record {
  start = r.start;
  whole = r.whole;
  distinct = r.distinct;
  opened = r.opened;
  events = r.events ++ more;
  is = ap (λ (h : Group). group_after h more) r.is ∙ sym (after-append r.start r.events more);
}

pub reached-opened : (g : Group) (whole : List Entry) → AreDistinct g.nodes → IsOpened g whole → IsReached g
reached-opened g whole distinct opened =
    record { start = g; whole = whole; distinct = distinct; opened = opened; events = []; is = refl }

pub reached-next : (g : Group) (e : Event) → IsReached g → IsReached (happens e g)
reached-next g e r = reached-after g (e ∷ []) r

-- ---- the laws of what was committed (`what_a_group_committed_stays` of `qq_raft_model`)

abbrev pub KnownLaw : Type 0
KnownLaw =
    (g : Group) (whole : List Entry) (events : List Event) (k : ℕ) (s : Server) → AreDistinct g.nodes
    → IsOpened g whole → IsUp (group_after g events) k s → IsFront (take s.commit s.log) (group_after g events).audit

abbrev pub AuditLaw : Type 0
AuditLaw =
    (g : Group) (whole : List Entry) (first second : List Event) → AreDistinct g.nodes → IsOpened g whole
    → IsFront (group_after g first).audit (group_after (group_after g first) second).audit

-- what a server knows to be committed begins the audit
pub known-front : KnownLaw → (g : Group) (k : ℕ) (s : Server) → IsReached g → IsUp g k s
    → IsFront (take s.commit s.log) g.audit
known-front law g k s r up =
    subst (λ (h : Group). IsFront (take s.commit s.log) h.audit) (sym r.is)
    (law r.start r.whole r.events k s r.distinct r.opened (subst (λ (h : Group). IsUp h k s) r.is up))

-- the audit only grows
pub audit-front : AuditLaw → (g : Group) (more : List Event) → IsReached g
    → IsFront g.audit (group_after g more).audit
audit-front law g more r =
    subst (λ (h : Group). IsFront h.audit (group_after h more).audit) (sym r.is)
    (law r.start r.whole r.events more r.distinct r.opened)

-- ---- the longer of two fronts

extended-longer : (audit known : List Entry) → IsFront audit known → extended audit known ≡ known
extended-longer audit known f =
    ap (λ (l : List Entry). audit ++ drop (length audit) l) f.is
    ∙ ap (λ (l : List Entry). audit ++ l) (drop-append_seam audit f.rest) ∙ sym f.is

extended-shorter : (audit known : List Entry) → length known ≤ length audit → extended audit known ≡ audit
extended-shorter audit known le =
    ap (λ (l : List Entry). audit ++ l) (drop_of_length-le known le) ∙ append-nil audit

-- an audit is extended to the longer of both, where both are fronts of one list
pub extended-is : (audit known whole : List Entry) → IsFront audit whole → IsFront known whole
    → longer audit known ≡ extended audit known
extended-is audit known whole a b = by (cases_lt (length audit) (length known))
  where
    by : ((length audit < length known) ⊎ (length known ≤ length audit)) → longer audit known ≡ extended audit known
    by (inl lt) = rw (lt-ltb (length audit) (length known) lt)
        (sym (extended-longer audit known (front-shorter a b (omega (arith, lt)))))
    by (inr le) = rw (le-ltb (length audit) (length known) le) (sym (extended-shorter audit known le))

-- ---- no event changes the members

feed-nodes : (k : ℕ) (input : Input) (o : Option Server) (g : Group) → (feed_by k input o g).nodes ≡ g.nodes
feed-nodes k input None g = refl
feed-nodes k input (Some s) g = refl

deliver-nodes : (before rest : List Rpc) (g : Group) → (deliver_by before rest g).nodes ≡ g.nodes
deliver-nodes before [] g = refl
deliver-nodes before (rpc ∷ rest) g =
    feed-nodes (envelope rpc).to.0 (Input.Receive rpc) (g.seat (envelope rpc).to.0).server
    (record g { bag = before ++ rest })

taken-nodes : (k : ℕ) (s : Server) (ops : List Op) (g : Group) → (take_by k s ops g).nodes ≡ g.nodes
taken-nodes k s [] g = refl
taken-nodes k s (op ∷ ops) g = refl

take-nodes : (k : ℕ) (o : Option Server) (g : Group) → (take_op k o g).nodes ≡ g.nodes
take-nodes k None g = refl
take-nodes k (Some s) g = taken-nodes k s s.ops g

restart-nodes : (k op : ℕ) (o : Option Stable) (g : Group) → (restart_by k op o g).nodes ≡ g.nodes
restart-nodes k op None g = refl
restart-nodes k op (Some state) g = refl

event-nodes : (e : Event) (g : Group) → (happens e g).nodes ≡ g.nodes
event-nodes (Tick k) g = feed-nodes k Input.Tick (g.seat k).server g
event-nodes (Submit k time command) g = feed-nodes k (Input.Submit time command) (g.seat k).server g
event-nodes (Add k time command) g = feed-nodes k (Input.Add time command) (g.seat k).server g
event-nodes (Flush k) g = feed-nodes k Input.Flush (g.seat k).server g
event-nodes (Deliver at) g = deliver-nodes (take at g.bag) (drop at g.bag) g
event-nodes (Lose at) g = refl
event-nodes (Copy at) g = refl
event-nodes (Take k) g = take-nodes k (g.seat k).server g
event-nodes (Notice k op) g =
    cond_both (leb op (length (g.seat k).ops)) (feed k (Input.Notice op) g) g (λ (h : Group). h.nodes ≡ g.nodes)
    (λ _. feed-nodes k (Input.Notice op) (g.seat k).server g) (λ _. refl)
event-nodes (Crash k) g = refl
event-nodes (Restart k op) g =
    cond_both (may_restart k op g) (restart_by k op (stable (take op (g.seat k).ops)) g) g
    (λ (h : Group). h.nodes ≡ g.nodes) (λ _. restart-nodes k op (stable (take op (g.seat k).ops)) g) (λ _. refl)

events-nodes : (events : List Event) (g : Group) → (group_after g events).nodes ≡ g.nodes
events-nodes [] g = refl
events-nodes (e ∷ es) g = events-nodes es (happens e g) ∙ event-nodes e g

pub reached-nodes : (g : Group) (r : IsReached g) → r.start.nodes ≡ g.nodes
reached-nodes g r = sym (ap (λ (h : Group). h.nodes) r.is ∙ events-nodes r.events r.start)

-- ---- what the logs of a reached group support

abbrev pub SupportLaw : Type 0
SupportLaw =
    (g : Group) (whole : List Entry) (events : List Event) → AreDistinct g.nodes → IsOpened g whole
    → IsSupported (members_of g.nodes) (IsLeft (group_after g events)) (whole_audit whole (group_after g events))

abbrev pub WholeLaw : Type 0
WholeLaw =
    (g : Group) (whole : List Entry) (events : List Event) → AreDistinct g.nodes → IsOpened g whole
    → IsFront whole (whole_audit whole (group_after g events))
    × IsFront (group_after g events).audit (whole_audit whole (group_after g events))

pub reached-supported : SupportLaw → (g : Group) (r : IsReached g)
    → IsSupported (members_of g.nodes) (IsLeft g) (whole_audit r.whole g)
reached-supported law g r =
    subst (λ (nodes : List NodeId). IsSupported (members_of nodes) (IsLeft g) (whole_audit r.whole g))
    (reached-nodes g r)
    (subst (λ (h : Group). IsSupported (members_of r.start.nodes) (IsLeft h) (whole_audit r.whole h)) (sym r.is)
    (law r.start r.whole r.events r.distinct r.opened))

pub reached-whole : WholeLaw → (g : Group) (r : IsReached g)
    → IsFront r.whole (whole_audit r.whole g) × IsFront g.audit (whole_audit r.whole g)
reached-whole law g r =
    subst (λ (h : Group). IsFront r.whole (whole_audit r.whole h) × IsFront h.audit (whole_audit r.whole h)) (sym r.is)
    (law r.start r.whole r.events r.distinct r.opened)
