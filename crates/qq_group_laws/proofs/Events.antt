-- What happens in a group whose servers have applied what begins the audit.
use Rattle.std.proofs.Common.{◌≡◌, ◌⊎◌, ℕ, zero, suc, take, arith, Bool, true, false, List, [], ◌∷◌, Option, Some, None, refl, sym, ap, subst, ◌∙◌, inl, inr}
use Rattle.std.specs.Prelude.{slice_get, if◌then◌else◌}
use Rattle.std.specs.List.{AllByRecursion}
use Rattle.std.proofs.lemmas.Bool.{cases_eq}
use Rattle.std.proofs.lemmas.Option.{none-some}
use Rattle.qq_base.specs.Fronts.{IsFront}
use Rattle.qq_base.proofs.Fronts.{front-refl}
use Rattle.qq_base.proofs.Puts.{put-same}
use Rattle.qq_base.specs.declared.ids.Index.{Index}
use Rattle.qq_entry.specs.declared.command.Entry.{Entry}
use Rattle.qq_log.specs.Log.{LogState}
use Rattle.qq_raft_core.specs.Raft.{server_of}
use Rattle.qq_raft_msg.specs.Bag.{at_place}
use Rattle.qq_raft_msg.specs.Queue.{Applied}
use Rattle.qq_raft_msg.specs.Rpc.{envelope}
use Rattle.qq_raft_msg.specs.declared.rpc.Rpc.{Rpc}
use Rattle.qq_raft_model.specs.Server.{notice as notice_raft, receive as receive_raft, submit as submit_raft, add as add_raft, tick as tick_raft}
use Rattle.qq_raft_model.specs.Leading.{flush as flush_raft}
use Rattle.qq_raft.specs.Step.{add, flush, notice, receive, submit, tick}
use Rattle.qq_raft.specs.declared.row.AppliedRow.{AppliedRow}
use Rattle.qq_raft.specs.declared.server.Server.{Server}
use Rattle.qq_raft_model.specs.Group.{Event as GroupEvent, Group as GroupState, Seat as SeatState, group_after, happens}
use Rattle.qq_group.specs.Events.{HasShownMessage, HasShownNotice, OneOf, ReachesOne, delivery, lacks_op, notices, takes, takes_at}
use Rattle.qq_group.specs.Follows.{HasShownBy, KeepsQueue, OthersStay, ShowsNothing}
use Rattle.qq_group.specs.Group.{IsSeat, IsSeatBy, Represents, server_at, server_by}
use Rattle.qq_group.specs.Opening.{HasStartedBy, HaveStarted, IsUnnamed, Start}
use Rattle.qq_group.specs.Restarts.{HasStarted}
use Rattle.qq_group.specs.Steps.{HasShownEvent, ReachesAtMost, made_by}
use Rattle.qq_group.specs.declared.event.Event.{Event}
use Rattle.qq_group.specs.declared.event.Event.TheVariants.{Tick, Submit, Add, Flush, Deliver, Lose, Copy, Notice, Crash}
use Rattle.qq_group.specs.declared.group.Group.{Group}
use Rattle.qq_group.specs.declared.seat.Seat.{Seat}
use Rattle.qq_group_laws.specs.Audited.{AreAudited, AreOfAudit, IsAudited, IsAuditedBy, IsMachine, queue_after}
use Rattle.qq_group_laws.proofs.Servers.{Keeps, KnownBy, grown, grown-by, nothing, shown-applies, shown-still}

-- ---- each event of the code is one of the definition, or none

pub record IsMade (g h : GroupState) : Type 0 where
  pub events : List GroupEvent
  pub is : h ≡ group_after g events

made-one : (g : GroupState) (e : GroupEvent) → IsMade g (happens e g)
made-one g e = record { events = e ∷ []; is = refl }

made-none : (g : GroupState) → IsMade g g
made-none g = record { events = []; is = refl }

made-either : (b : Bool) (g : GroupState) (e f : GroupEvent) → IsMade g (if b then happens e g else happens f g)
made-either true g e f = made-one g e
made-either false g e f = made-one g f

made-delivery : (at : ℕ) (o : Option Rpc) (g : GroupState) → IsMade g (delivery at o g)
made-delivery at None g = made-none g
made-delivery at (Some rpc) g =
    made-either (takes (g.seat (envelope rpc).to.0).server rpc) g (GroupEvent.Deliver at) (GroupEvent.Lose at)

made-notice : (k op : ℕ) (lacks : Bool) (g : GroupState) → IsMade g (notices k op lacks g)
made-notice k op true g = made-none g
made-notice k op false g = made-one g (GroupEvent.Notice k op)

pub made-event : {Q L : Type 0} (event : Event) (old : Group Q L) (g : GroupState) → IsMade g (made_by event old g)
made-event (Tick node) old g = made-one g (GroupEvent.Tick node.0)
made-event (Submit node time command) old g = made-one g (GroupEvent.Submit node.0 time command)
made-event (Add node time command) old g = made-one g (GroupEvent.Add node.0 time command)
made-event (Flush node) old g = made-one g (GroupEvent.Flush node.0)
made-event (Deliver zero) old g = made-none g
made-event (Deliver (suc at)) old g = made-delivery at (slice_get g.bag at) g
made-event (Lose zero) old g = made-none g
made-event (Lose (suc at)) old g = made-one g (GroupEvent.Lose at)
made-event (Copy zero) old g = made-none g
made-event (Copy (suc at)) old g = made-one g (GroupEvent.Copy at)
made-event (Notice node op) old g = made-notice node.0 op (lacks_op node.0 op old) g
made-event (Crash node) old g = made-one g (GroupEvent.Crash node.0)

-- ---- one member changes

pub all-audited : {P Q L : Type 0} (stands : P → Q → Type 0) (step : P → Index → Entry → Applied P) (start : P)
    (k : ℕ) (old new : Group Q L) → AreAudited stands step start old → IsFront old.audit.items new.audit.items
    → OthersStay k old new → IsAuditedBy stands step start new.audit.items (server_at k new)
    → AreAudited stands step start new
all-audited {P = P} {Q = Q} {L = L} stands step start k old new all front stay own = λ q. by q (cases_eq q k)
  where
    by : (q : ℕ) → (q ≡ k) ⊎ (q ≡ k → ⊥) → IsAuditedBy stands step start new.audit.items (server_at q new)
    by q (inl is) =
        subst (λ (j : ℕ). IsAuditedBy stands step start new.audit.items (server_at j new)) (sym is) own
    by q (inr other) =
        subst (λ (o : Option (Server Q L)). IsAuditedBy stands step start new.audit.items o)
        (sym (ap server_by (stay q other))) (grown-by stands step start (server_at q old) front (all q))

-- none does
pub none-audited : {P Q L : Type 0} (stands : P → Q → Type 0) (step : P → Index → Entry → Applied P) (start : P)
    (old new : Group Q L) → AreAudited stands step start old → IsFront old.audit.items new.audit.items
    → new.seats ≡ old.seats → AreAudited stands step start new
none-audited {Q = Q} {L = L} stands step start old new all front same = λ q.
    subst (λ (o : Option (Server Q L)). IsAuditedBy stands step start new.audit.items o)
    (sym (ap (λ seats. server_by (slice_get seats.items q)) same)) (grown-by stands step start (server_at q old) front (all q))

-- what an event keeps, and shows
pub record GroupKeeps {P Q L : Type 0} (stands : P → Q → Type 0) (step : P → Index → Entry → Applied P) (start : P)
    (group : Group Q L) (rows : List AppliedRow) : Type 0 where
  pub audited : AreAudited stands step start group
  pub rows_are : AreOfAudit step start group.audit.items rows

by-one : {P Q L : Type 0} (stands : P → Q → Type 0) (step : P → Index → Entry → Applied P) (start : P)
    (k : ℕ) (old new : Group Q L) (rows : List AppliedRow) → AreAudited stands step start old
    → IsFront old.audit.items new.audit.items → OthersStay k old new
    → Keeps stands step start new.audit.items (server_at k new) rows → GroupKeeps stands step start new rows
by-one stands step start k old new rows all front stay keep = record {
  audited = all-audited stands step start k old new all front stay keep.audited;
  rows_are = keep.rows_are;
}

by-none : {P Q L : Type 0} (stands : P → Q → Type 0) (step : P → Index → Entry → Applied P) (start : P)
    (old new : Group Q L) (rows : List AppliedRow) → AreAudited stands step start old
    → IsFront old.audit.items new.audit.items → new.seats ≡ old.seats → rows ≡ []
    → GroupKeeps stands step start new rows
by-none stands step start old new rows all front same none = record {
  audited = none-audited stands step start old new all front same;
  rows_are = subst (AreOfAudit step start new.audit.items) (sym none) tt;
}

-- ---- each event

one-of : {P Q L : Type 0} (stands : P → Q → Type 0) (step : P → Index → Entry → Applied P) (start : P)
    (log : L → LogState) {was now : List Entry} (b : Bool) (rpc : Rpc) (o p : Option (Server Q L))
    (rows : List AppliedRow) → IsAuditedBy stands step start was o → IsFront was now → KnownBy log now p
    → OneOf b (HasShownBy stands log (receive step rpc) o p rows) (ShowsNothing o p rows)
    → Keeps stands step start now p rows
one-of stands step start log true rpc o p rows a front known s =
    shown-applies stands step start log (receive step rpc) (receive_raft rpc) (λ t. refl) o p rows a front known s
one-of stands step start log false rpc o p rows a front known s = nothing stands step start o p rows s a front

noticed : {P Q L : Type 0} (stands : P → Q → Type 0) (step : P → Index → Entry → Applied P) (start : P)
    (log : L → LogState) {was now : List Entry} (lacks : Bool) (op : ℕ) (o p : Option (Server Q L))
    (rows : List AppliedRow) → IsAuditedBy stands step start was o → IsFront was now → KnownBy log now p
    → HasShownNotice stands step log op lacks o p rows → Keeps stands step start now p rows
noticed stands step start log true op o p rows a front known s = nothing stands step start o p rows s a front
noticed stands step start log false op o p rows a front known s =
    shown-applies stands step start log (notice step op) (notice_raft op) (λ t. refl) o p rows a front known s

message : {P Q L : Type 0} (stands : P → Q → Type 0) (step : P → Index → Entry → Applied P) (start : P)
    (log : L → LogState) (o : Option Rpc) (old new : Group Q L) (rows : List AppliedRow)
    → AreAudited stands step start old → IsFront old.audit.items new.audit.items
    → ((k : ℕ) → KnownBy log new.audit.items (server_at k new)) → HasShownMessage stands step log o old new rows
    → ReachesOne o old new → GroupKeeps stands step start new rows
message stands step start log None old new rows all front known s reach =
    by-none stands step start old new rows all front reach s
message stands step start log (Some rpc) old new rows all front known s reach =
    let k = (envelope rpc).to.0 in
    by-one stands step start k old new rows all front reach
    (one-of stands step start log (takes_at log rpc (server_at k old)) rpc (server_at k old) (server_at k new) rows
    (all k) front (known k) s)

crashed : {P Q L : Type 0} (stands : P → Q → Type 0) (step : P → Index → Entry → Applied P) (start : P)
    (audit : List Entry) (o : Option (Server Q L)) (rows : List AppliedRow) → o ≡ None → rows ≡ []
    → Keeps stands step start audit o rows
crashed {Q = Q} {L = L} stands step start audit o rows down none = record {
  audited = subst (λ (p : Option (Server Q L)). IsAuditedBy stands step start audit p) (sym down) tt;
  rows_are = subst (AreOfAudit step start audit) (sym none) tt;
}

-- the member that crashes is down
abbrev pub IsDownAfter : {Q L : Type 0} → Event → Group Q L → Type 0
IsDownAfter (Crash node) new = server_at node.0 new ≡ None
IsDownAfter _ new = Unit {0}

pub event-keeps : {P Q L : Type 0} (stands : P → Q → Type 0) (step : P → Index → Entry → Applied P) (start : P)
    (log : L → LogState) (event : Event) (old new : Group Q L) (rows : List AppliedRow)
    → AreAudited stands step start old → IsFront old.audit.items new.audit.items
    → ((k : ℕ) → KnownBy log new.audit.items (server_at k new)) → HasShownEvent stands step log event old new rows
    → ReachesAtMost event old new → IsDownAfter event new → GroupKeeps stands step start new rows
event-keeps stands step start log (Tick node) old new rows all front known s reach down =
    by-one stands step start node.0 old new rows all front reach
    (shown-still stands step start log tick tick_raft (λ t. refl) (server_at node.0 old) (server_at node.0 new) rows
    (all node.0) front s)
event-keeps stands step start log (Submit node time command) old new rows all front known s reach down =
    by-one stands step start node.0 old new rows all front reach
    (shown-still stands step start log (submit time command) (submit_raft time command) (λ t. refl)
    (server_at node.0 old) (server_at node.0 new) rows (all node.0) front s)
event-keeps stands step start log (Add node time command) old new rows all front known s reach down =
    by-one stands step start node.0 old new rows all front reach
    (shown-still stands step start log (add time command) (add_raft time command) (λ t. refl)
    (server_at node.0 old) (server_at node.0 new) rows (all node.0) front s)
event-keeps stands step start log (Flush node) old new rows all front known s reach down =
    by-one stands step start node.0 old new rows all front reach
    (shown-still stands step start log flush flush_raft (λ t. refl) (server_at node.0 old) (server_at node.0 new) rows
    (all node.0) front s)
event-keeps stands step start log (Deliver place) old new rows all front known s reach down =
    message stands step start log (at_place place old.bag) old new rows all front known s reach
event-keeps stands step start log (Lose place) old new rows all front known s reach down =
    by-none stands step start old new rows all front reach s
event-keeps stands step start log (Copy place) old new rows all front known s reach down =
    by-none stands step start old new rows all front reach s
event-keeps stands step start log (Notice node op) old new rows all front known s reach down =
    by-one stands step start node.0 old new rows all front reach
    (noticed stands step start log (lacks_op node.0 op old) op (server_at node.0 old) (server_at node.0 new) rows
    (all node.0) front (known node.0) s)
event-keeps stands step start log (Crash node) old new rows all front known s reach down =
    by-one stands step start node.0 old new rows all front reach
    (crashed stands step start new.audit.items (server_at node.0 new) rows down s)

-- ---- who is down

down-seat : {Q L : Type 0} (log : L → LogState) (state : SeatState) (seat : Seat Q L) (o : Option (Server Q L))
    → IsSeatBy log state seat o → state.server ≡ None → o ≡ None
down-seat log state seat None is down = refl
down-seat log state seat (Some s) is down = absurd (none-some (server_of log s.raft) (sym down ∙ is.0))

down-by : {Q L : Type 0} (log : L → LogState) (state : SeatState) (o : Option (Seat Q L)) → IsSeat log state o
    → state.server ≡ None → server_by o ≡ None
down-by log state None is down = refl
down-by log state (Some seat) is down = down-seat log state seat seat.server is down

pub crash-down : {Q L : Type 0} (log : L → LogState) (k : ℕ) (g : GroupState) (new : Group Q L)
    → Represents log (happens (GroupEvent.Crash k) g) new → server_at k new ≡ None
crash-down log k g new r =
    down-by log ((happens (GroupEvent.Crash k) g).seat k) (slice_get new.seats.items k) (r.seats k)
    (ap (λ (s : SeatState). s.server) (put-same k _ g.seat))

pub down-after : {Q L : Type 0} (log : L → LogState) (event : Event) (g : GroupState) (old new : Group Q L)
    → Represents log (made_by event old g) new → IsDownAfter event new
down-after log (Crash node) g old new r = crash-down log node.0 g new r
down-after log (Tick node) g old new r = tt
down-after log (Submit node time command) g old new r = tt
down-after log (Add node time command) g old new r = tt
down-after log (Flush node) g old new r = tt
down-after log (Deliver place) g old new r = tt
down-after log (Lose place) g old new r = tt
down-after log (Copy place) g old new r = tt
down-after log (Notice node op) g old new r = tt

-- ---- members that start, and that hand an op out

pub started : {P Q L : Type 0} (stands : P → Q → Type 0) (step : P → Index → Entry → Applied P) (start : P)
    (audit : List Entry) (machine : Q) (o : Option (Server Q L)) → HasStarted stands machine o
    → stands start machine → IsAuditedBy stands step start audit o
started stands step start audit machine None has stood = absurd has
started {P = P} stands step start audit machine (Some s) has stood =
    let h = has start stood in
    let none : s.applied ≡ 0 = h.1 in
    record {
      applied = omega (arith, none);
      queue = subst (λ (n : ℕ). stands (queue_after step start 0 (take n audit)) s.machine) (sym none) h.0;
      rows = h.2;
    }

pub handed : {P Q L : Type 0} (stands : P → Q → Type 0) (step : P → Index → Entry → Applied P) (start : P)
    {was now : List Entry} (o p : Option (Server Q L)) → KeepsQueue o p → IsFront was now
    → IsAuditedBy stands step start was o → IsAuditedBy stands step start now p
handed {Q = Q} {L = L} stands step start {was} {now} None p keep front a =
    subst (λ (x : Option (Server Q L)). IsAuditedBy stands step start now x) (sym keep) tt
handed stands step start (Some s) None keep front a = absurd keep
handed {Q = Q} {L = L} stands step start {was} {now} (Some s) (Some t) keep front a =
    subst (λ (x : Server Q L). IsAudited stands step start now x) (sym keep)
    (record { applied = (grown stands step start s front a).applied; queue = (grown stands step start s front a).queue; rows = a.rows })

-- ---- groups that were opened

machine-audited : {P Q L : Type 0} (stands : P → Q → Type 0) (step : P → Index → Entry → Applied P) (start : P)
    (audit : List Entry) (o : Option (Q × L)) (x : Option (Server Q L)) → IsMachine stands start o
    → HasStartedBy stands o x → IsAuditedBy stands step start audit x
machine-audited {Q = Q} {L = L} stands step start audit None x machine has =
    subst (λ (y : Option (Server Q L)). IsAuditedBy stands step start audit y) (sym has) tt
machine-audited stands step start audit (Some m) x machine has = started stands step start audit m.0 x has machine

named-by : {P Q L : Type 0} (stands : P → Q → Type 0) (step : P → Index → Entry → Applied P) (start : P)
    (audit : List Entry) (k : ℕ) (group : Group Q L) (s : Start Q L) (starts : List (Start Q L))
    → (s.0.0 ≡ k) ⊎ (s.0.0 ≡ k → ⊥) → IsMachine stands start s.1 → HasStartedBy stands s.1 (server_at s.0.0 group)
    → (IsUnnamed (s ∷ starts) k → server_at k group ≡ None)
    → ((IsUnnamed starts k → server_at k group ≡ None) → IsAuditedBy stands step start audit (server_at k group))
    → IsAuditedBy stands step start audit (server_at k group)
named-by stands step start audit k group s starts (inl is) machine has rest next =
    subst (λ (j : ℕ). IsAuditedBy stands step start audit (server_at j group)) is
    (machine-audited stands step start audit s.1 (server_at s.0.0 group) machine has)
named-by stands step start audit k group s starts (inr other) machine has rest next =
    next (λ unnamed. rest (other, unnamed))

pub named-or : {P Q L : Type 0} (stands : P → Q → Type 0) (step : P → Index → Entry → Applied P) (start : P)
    (audit : List Entry) (k : ℕ) (group : Group Q L) (starts : List (Start Q L))
    → AllByRecursion (λ (s : Start Q L). IsMachine stands start s.1) starts → HaveStarted stands starts group
    → (IsUnnamed starts k → server_at k group ≡ None) → IsAuditedBy stands step start audit (server_at k group)
named-or {Q = Q} {L = L} stands step start audit k group [] machines has rest =
    subst (λ (x : Option (Server Q L)). IsAuditedBy stands step start audit x) (sym (rest tt)) tt
named-or stands step start audit k group (s ∷ starts) machines has rest =
    named-by stands step start audit k group s starts (cases_eq s.0.0 k) machines.0 has.0 rest
    (named-or stands step start audit k group starts machines.1 has.1)

-- ---- restarts, and ops that leave

same-front : {Q L : Type 0} (old new : Group Q L) → new.audit ≡ old.audit → IsFront old.audit.items new.audit.items
same-front old new same =
    subst (λ (es : List Entry). IsFront old.audit.items es) (sym (ap (λ audit. audit.items) same))
    (front-refl old.audit.items)

pub started-group : {P Q L : Type 0} (stands : P → Q → Type 0) (step : P → Index → Entry → Applied P) (start : P)
    (k : ℕ) (machine : Q) (old new : Group Q L) → stands start machine
    → HasStarted stands machine (server_at k new) → OthersStay k old new → new.audit ≡ old.audit
    → AreAudited stands step start old → AreAudited stands step start new
started-group stands step start k machine old new stood has stay same all =
    all-audited stands step start k old new all (same-front old new same) stay
    (started stands step start new.audit.items machine (server_at k new) has stood)

pub handed-group : {P Q L : Type 0} (stands : P → Q → Type 0) (step : P → Index → Entry → Applied P) (start : P)
    (k : ℕ) (old new : Group Q L) → KeepsQueue (server_at k old) (server_at k new) → OthersStay k old new
    → new.audit ≡ old.audit → AreAudited stands step start old → AreAudited stands step start new
handed-group stands step start k old new keep stay same all =
    all-audited stands step start k old new all (same-front old new same) stay
    (handed stands step start (server_at k old) (server_at k new) keep (same-front old new same) (all k))
