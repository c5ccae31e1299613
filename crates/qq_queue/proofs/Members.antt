-- An event of the code is that of the definition, and the members are as they should be behind it.
use Rattle.std.proofs.Common.{◌≡◌, ◌⊎◌, ℕ, zero, suc, ◌+◌, ◌-◌, ◌<◌, ◌≤◌, Bool, true, false, cond, List, [], ◌∷◌, length, take, drop, Option, Some, None, refl, sym, ap, subst, ◌∙◌, inl, inr, arith}
use Rattle.std.specs.Prelude.{◌&&◌, is_some, nat_le, nat_lt, slice_get}
use Rattle.std.proofs.lemmas.Bool.{cases_eq, cond-true, cond-false, false≢true, lt-leb, ltb-true}
use Rattle.std.proofs.lemmas.Option.{none-some}
use Rattle.qq_base.proofs.Puts.{put-same}
use Rattle.qq_base.specs.Fronts.{IsFront}
use Rattle.qq_entry.specs.declared.command.Entry.{Entry}
use Rattle.qq_entry.specs.declared.queue.QueueArgs.{QueueArgs}
use Rattle.qq_log.specs.Log.{LogState}
use Rattle.qq_log.specs.declared.op.Op.{Op}
use Rattle.qq_model.specs.State.{State, empty_queue}
use Rattle.qq_raft_core.specs.Fits.{fits}
use Rattle.qq_raft_core.specs.Raft.{server_of}
use Rattle.qq_raft_msg.specs.Bag.{at_place}
use Rattle.qq_raft_msg.specs.Rpc.{envelope}
use Rattle.qq_raft_msg.specs.declared.rpc.Rpc.{Rpc}
use Rattle.qq_raft_protocol.specs.Facts.{In}
use Rattle.qq_raft_model.specs.Server.{notice as notice_raft, receive as receive_raft, submit as submit_raft, add as add_raft, tick as tick_raft}
use Rattle.qq_raft_model.specs.Leading.{flush as flush_raft}
use Rattle.qq_raft_model.specs.Group.{Event as Move, Group as GroupState, Seat as SeatState, deliver_by, feed, group_after, happens}
use Rattle.qq_raft_model.specs.Group.Event.{Deliver, Lose, Notice as Notify, Crash}
use Rattle.qq_raft_model.specs.Promises.{AreDistinct, IsOpened, IsUp}
use Rattle.qq_raft_model.specs.Server.{Input}
use Rattle.qq_raft_model.specs.State.{Server as Raft, last}
use Rattle.qq_raft.specs.Step.{ServerState, add, apply_all, apply_committed, flush, notice, receive, submit, tick, with_raft}
use Rattle.qq_raft.specs.Stands.{state_of}
use Rattle.qq_raft.specs.declared.row.AppliedRow.{AppliedRow}
use Rattle.qq_queue.specs.declared.machine_queue.MachineQueue.{MachineQueue}
use Rattle.qq_group.specs.Events.{HasShownMessage, HasShownNotice, OneOf, ReachesOne, delivery, lacks_by, lacks_op, notices, takes, takes_at}
use Rattle.qq_group.specs.Follows.{Follows, HasShownBy, OthersStay, Shows, ShowsNothing}
use Rattle.qq_group.specs.Group.{IsReached, IsSeat, IsSeatBy, Represents, server_at, server_by}
use Rattle.qq_group.specs.Handing.{KeepsReturned, held, returned_at}
use Rattle.qq_group.specs.Reads.{receiver_of}
use Rattle.qq_group.specs.Steps.{HasShownEvent, ReachesAtMost, made_by}
use Rattle.qq_group.specs.declared.event.Event.{Event}
use Rattle.qq_group.specs.declared.event.Event.TheVariants as events
use Rattle.qq_group.specs.declared.seat.Seat.{Seat}
use Rattle.qq_group_laws.specs.Audited.{AreAudited, IsAuditedBy, queue_after}
use Rattle.qq_queue.specs.Members.{audit_rows_of, effects_in, AreSound, AreTold, IsCurrent, IsGroupOf, Member, Members, StayDown, moves_of, number_of, own_log, queue_stands, queue_step, teller}
use Rattle.qq_queue.proofs.Current.{add-same, flush-same, submit-same, tick-same}
use Rattle.qq_queue.proofs.Rows.{Applies, HasTold, all-applied, all-raft, applied-all, applies-told, at_rest, none-told, raft-is}

-- ---- what the laws of groups say

pub record HasLaws : Type 0 where
  pub servers : (args : QueueArgs) (g : GroupState) (event : Event) (old new : Members) (rows : List AppliedRow)
      → IsReached g → Represents own_log g old → Follows own_log (made_by event old) old new
      → HasShownEvent queue_stands queue_step own_log event old new rows → ReachesAtMost event old new
      → AreAudited queue_stands queue_step (empty_queue args) old
      → AreAudited queue_stands queue_step (empty_queue args) new
  pub known : (g : GroupState) (group : Members) (k : ℕ) (s : Member) → IsReached g → Represents own_log g group
      → server_at k group ≡ Some s → IsFront (take s.raft.commit s.raft.log.entries) group.audit.items
  pub grows : (g : GroupState) (moves : List Move) (old new : Members) → IsReached g → Represents own_log g old
      → Represents own_log (group_after g moves) new → IsFront old.audit.items new.audit.items
  pub commit : (g : GroupState) (whole : List Entry) (moves : List Move) (k : ℕ) (s : Raft) → AreDistinct g.nodes
      → IsOpened g whole → IsUp (group_after g moves) k s → s.commit ≤ last s
  pub received : (s : ServerState State) (rpc : Rpc) → s.raft.commit ≤ (receive queue_step rpc s).raft.commit
  pub noticed : (s : ServerState State) (op : ℕ) → s.applied ≤ s.raft.commit
      → (notice queue_step op s).applied ≤ (notice queue_step op s).raft.commit
  pub fit : (g : GroupState) (group : Members) (rpc : Rpc) (s : Member) → IsReached g → Represents own_log g group
      → AreSound group → In rpc group.bag → server_at (envelope rpc).to.0 group ≡ Some s
      → fits (server_of own_log s.raft) rpc ≡ true
  pub reached : (g : GroupState) (moves : List Move) → IsReached g → IsReached (group_after g moves)

-- ---- the server of a member

-- as the definition has it
abbrev pub raft_of : Option Member → Option Raft
raft_of None = None
raft_of (Some s) = Some (server_of own_log s.raft)

seat-by : (state : SeatState) (seat : Seat MachineQueue LogState) (o : Option Member)
    → IsSeatBy own_log state seat o → state.server ≡ raft_of o
seat-by state seat None is = is.0
seat-by state seat (Some s) is = is.0

seat-at : (state : SeatState) (o : Option (Seat MachineQueue LogState)) → IsSeat own_log state o
    → state.server ≡ raft_of (server_by o)
seat-at state None is = is
seat-at state (Some seat) is = seat-by state seat seat.server is

pub seat-is : (g : GroupState) (group : Members) (k : ℕ) → Represents own_log g group
    → (g.seat k).server ≡ raft_of (server_at k group)
seat-is g group k r = seat-at (g.seat k) (slice_get group.seats.items k) (r.seats k)

-- what the log of a member that is up was handed, and how much of that was noticed
pub record HasLog (state : SeatState) (seat : Seat MachineQueue LogState) (s : Member) : Type 0 where
  pub handed : length state.ops ≡ seat.handed
  pub noticed : state.noticed ≡ s.raft.noticed

pub log-is : (g : GroupState) (group : Members) (k : ℕ) (seat : Seat MachineQueue LogState) (s : Member)
    → Represents own_log g group → slice_get group.seats.items k ≡ Some seat → seat.server ≡ Some s
    → HasLog (g.seat k) seat s
log-is g group k seat s r there up =
    let own : IsSeatBy own_log (g.seat k) seat (Some s) =
    subst (λ (o : Option Member). IsSeatBy own_log (g.seat k) seat o) up
    (subst (IsSeat own_log (g.seat k)) there (r.seats k)) in
    record { handed = own.1.handed; noticed = own.1.noticed ∙ own.2 }

-- ---- each event of the code is one of the definition

in-at : {A : Type 0} (x : A) (xs : List A) (i : ℕ) → slice_get xs i ≡ Some x → In x xs
in-at x [] i is = absurd (let e : None ≡ Some x = is in cc)
in-at x (y ∷ xs) zero is = inl (let e : Some y ≡ Some x = is in cc)
in-at x (y ∷ xs) (suc i) is = inr (in-at x xs i is)

none-behind : {A : Type 0} (xs : List A) (i : ℕ) → slice_get xs i ≡ None → drop i xs ≡ []
none-behind [] zero is = refl
none-behind [] (suc i) is = refl
none-behind (x ∷ xs) zero is = absurd (let e : Some x ≡ None = is in cc)
none-behind (x ∷ xs) (suc i) is = none-behind xs i is

takes-is : HasLaws → (g : GroupState) (group : Members) (rpc : Rpc) → IsReached g → Represents own_log g group
    → AreSound group → In rpc group.bag → (o : Option Member) → server_at (envelope rpc).to.0 group ≡ o
    → takes (raft_of o) rpc ≡ true
takes-is laws g group rpc reached r sound here None is = refl
takes-is laws g group rpc reached r sound here (Some s) is = laws.fit g group rpc s reached r sound here is

takes-rpc : HasLaws → (g : GroupState) (group : Members) (rpc : Rpc) (at : ℕ) → IsReached g
    → Represents own_log g group → AreSound group → slice_get g.bag at ≡ Some rpc
    → takes (g.seat (envelope rpc).to.0).server rpc ≡ true
takes-rpc laws g group rpc at reached r sound here =
    let k : ℕ = (envelope rpc).to.0 in
    ap (λ (o : Option Raft). takes o rpc) (seat-is g group k r)
    ∙ takes-is laws g group rpc reached r sound
    (subst (λ (bag : List Rpc). In rpc bag) r.bag (in-at rpc g.bag at here)) (server_at k group) refl

deliver-is : HasLaws → (g : GroupState) (group : Members) (at : ℕ) → IsReached g → Represents own_log g group
    → AreSound group → (o : Option Rpc) → slice_get g.bag at ≡ o → delivery at o g ≡ happens (Deliver at) g
deliver-is laws g group at reached r sound None is =
    sym (ap (λ (l : List Rpc). deliver_by (take at g.bag) l g) (none-behind g.bag at is))
deliver-is laws g group at reached r sound (Some rpc) is =
    cond-true (takes (g.seat (envelope rpc).to.0).server rpc) (happens (Deliver at) g) (happens (Lose at) g)
    (takes-rpc laws g group rpc at reached r sound is)

-- a notice of an op that the log wasn't handed is none
lacks-by : (g : GroupState) (group : Members) (k op : ℕ) (seat : Seat MachineQueue LogState) (o : Option Member)
    → Represents own_log g group
    → ((s : Member) → server_at k group ≡ Some s → IsCurrent k s group) → slice_get group.seats.items k ≡ Some seat
    → seat.server ≡ o → (is_some o && nat_lt (held seat) op) ≡ true → nat_le op (length (g.seat k).ops) ≡ false
lacks-by g group k op seat None r current there up lacks = absurd (false≢true lacks)
lacks-by g group k op seat (Some s) r current there up lacks =
    let own = log-is g group k seat s r there up in
    let kept : seat.returned ≡ None =
    sym (ap returned_at there) ∙ (current s (ap server_by there ∙ up)).kept in
    let count : held seat ≡ seat.handed =
    ap (λ (o : Option Op). cond (is_some o) (seat.handed - 1) seat.handed) kept in
    let handed : length (g.seat k).ops ≡ seat.handed = own.handed in
    let less : seat.handed < op =
    ltb-true seat.handed op (ap (λ (n : ℕ). nat_lt n op) (sym count) ∙ lacks) in
    lt-leb op (length (g.seat k).ops) (omega (arith, handed, less))

lacks-at : (g : GroupState) (group : Members) (k op : ℕ) (o : Option (Seat MachineQueue LogState))
    → Represents own_log g group
    → ((s : Member) → server_at k group ≡ Some s → IsCurrent k s group) → slice_get group.seats.items k ≡ o
    → lacks_by op o ≡ true → nat_le op (length (g.seat k).ops) ≡ false
lacks-at g group k op None r current there lacks = absurd (false≢true lacks)
lacks-at g group k op (Some seat) r current there lacks =
    lacks-by g group k op seat seat.server r current there refl lacks

notice-is : (g : GroupState) (group : Members) (k op : ℕ) → Represents own_log g group
    → ((s : Member) → server_at k group ≡ Some s → IsCurrent k s group) → (lacks : Bool)
    → lacks_op k op group ≡ lacks → notices k op lacks g ≡ happens (Notify k op) g
notice-is g group k op r current false is = refl
notice-is g group k op r current true is =
    sym (cond-false (nat_le op (length (g.seat k).ops)) (feed k (Input.Notice op) g) g
    (lacks-at g group k op (slice_get group.seats.items k) r current refl is))

made-is : HasLaws → (args : QueueArgs) (g : GroupState) (event : Event) (old : Members) → AreSound old
    → IsGroupOf args g old → made_by event old g ≡ group_after g (moves_of event)
made-is laws args g (events.Tick node) old sound it = refl
made-is laws args g (events.Submit node time command) old sound it = refl
made-is laws args g (events.Add node time command) old sound it = refl
made-is laws args g (events.Flush node) old sound it = refl
made-is laws args g (events.Deliver zero) old sound it = refl
made-is laws args g (events.Deliver (suc at)) old sound it =
    deliver-is laws g old at it.reached it.represents sound (slice_get g.bag at) refl
made-is laws args g (events.Lose zero) old sound it = refl
made-is laws args g (events.Lose (suc at)) old sound it = refl
made-is laws args g (events.Copy zero) old sound it = refl
made-is laws args g (events.Copy (suc at)) old sound it = refl
made-is laws args g (events.Notice node op) old sound it =
    notice-is g old node.0 op it.represents (it.current node.0) (lacks_op node.0 op old) refl
made-is laws args g (events.Crash node) old sound it = refl

-- ---- the member that an event reaches

-- a member that a step reaches has applied what it knows to be committed, and it isn't up if it wasn't
pub record Reaches (o p : Option Member) : Type 0 where
  pub applied : (t : Member) → p ≡ Some t → t.applied ≡ t.raft.commit
  pub down : o ≡ None → p ≡ None

some-is : {A : Type 0} (x y : A) → Some x ≡ Some y → x ≡ y
some-is x y e = cc

down-still : (o p : Option Member) (rows : List AppliedRow) → ShowsNothing o p rows → o ≡ None → Reaches o p
down-still o p rows shown down = record {
  applied = λ t up. absurd (none-some t (sym (shown.0 ∙ down) ∙ up));
  down = λ _. shown.0 ∙ down;
}

one-reached : (s t : Member) → t.applied ≡ t.raft.commit → Reaches (Some s) (Some t)
one-reached s t own = record {
  applied = λ u up. subst (λ (x : Member). x.applied ≡ x.raft.commit) (some-is t u up) own;
  down = λ none. absurd (none-some s (sym none));
}

abbrev IsCaughtUp : Option Member → Type 0
IsCaughtUp o = (s : Member) → o ≡ Some s → s.applied ≡ s.raft.commit

-- a step in which nothing is applied
still : (args : QueueArgs) (audit : List Entry) (f : ServerState State → ServerState State) (raft : Raft → Raft)
    → ((s : ServerState State) → f s ≡ with_raft (raft s.raft) s) → ((s : Raft) → (raft s).commit ≡ s.commit)
    → (o p : Option Member) (rows : List AppliedRow)
    → IsAuditedBy queue_stands queue_step (empty_queue args) audit o → IsCaughtUp o
    → HasShownBy queue_stands own_log f o p rows → Reaches o p × (rows ≡ [])
still args audit f raft is same None p rows a current shown = (down-still None p rows shown refl, shown.1)
still args audit f raft is same (Some s) None rows a current shown = absurd shown
still args audit f raft is same (Some s) (Some t) rows a current shown =
    let queue : State = queue_after queue_step (empty_queue args) 0 (take s.applied audit) in
    let first : ServerState State = state_of own_log queue s in
    let made = subst (λ (m : ServerState State). Shows queue_stands own_log m t rows) (is first) (shown queue a.queue) in (
      one-reached s t (made.applied ∙ current s refl
          ∙ sym (ap (λ (r : Raft). r.commit) made.raft ∙ same (server_of own_log s.raft))),
      made.rows_are ∙ a.rows,
    )

told-none : (args : QueueArgs) (p : Option Raft) (rows : List AppliedRow) → rows ≡ [] → HasTold args None p rows
told-none args p rows none = record {
  rows_are = ap (λ (l : List AppliedRow). audit_rows_of l) none;
  effects_are = ap (λ (l : List AppliedRow). effects_in l) none;
}

-- a step in which what is committed is applied
acts : (args : QueueArgs) (audit now : List Entry) (f : ServerState State → ServerState State) (raft : Raft → Raft)
    → ((s : ServerState State) → f s ≡ apply_committed queue_step (with_raft (raft s.raft) s))
    → (o p : Option Member) (rows : List AppliedRow)
    → IsAuditedBy queue_stands queue_step (empty_queue args) audit o → IsCaughtUp o → IsFront audit now
    → ((t : Member) → p ≡ Some t → IsFront (take t.raft.commit t.raft.log.entries) now)
    → ((t : Member) → p ≡ Some t → t.raft.commit ≤ length t.raft.log.entries)
    → ((s : Member) → s.applied ≡ s.raft.commit → s.applied ≤ (raft (server_of own_log s.raft)).commit)
    → HasShownBy queue_stands own_log f o p rows → Reaches o p × HasTold args (raft_of o) (raft_of p) rows
acts args audit now f raft is None p rows a current grows known within rises shown =
    (down-still None p rows shown refl, told-none args (raft_of p) rows shown.1)
acts args audit now f raft is (Some s) None rows a current grows known within rises shown = absurd shown
acts args audit now f raft is (Some s) (Some t) rows a current grows known within rises shown =
    let queue : State = queue_after queue_step (empty_queue args) 0 (take s.applied audit) in
    let first : ServerState State = state_of own_log queue s in
    let r : Raft = raft (server_of own_log s.raft) in
    let made = subst (λ (m : ServerState State). Shows queue_stands own_log m t rows) (is first) (shown queue a.queue) in
    let same : server_of own_log t.raft ≡ at_rest r = raft-is queue s t r rows made in
    let applies : Applies args audit now s t r rows = record {
      audited = a;
      current = current s refl;
      grows = grows;
      known = subst (λ (l : List Entry). IsFront l now) (ap (λ (x : Raft). take x.commit x.log) same) (known t refl);
      shows = made;
    } in (
      one-reached s t (applied-all args audit now s t r rows applies (rises s (current s refl))
          (subst (λ (x : Raft). x.commit ≤ length x.log) same (within t refl))),
      applies-told args audit now s t r rows applies,
    )

notice-rises : HasLaws → (op : ℕ) (queue : State) (s : Member) → s.applied ≡ s.raft.commit
    → s.applied ≤ (notice_raft op (server_of own_log s.raft)).commit
unfolding apply_committed
notice-rises laws op queue s current =
    let first : ServerState State = state_of own_log queue s in
    let raft : Raft = notice_raft op (server_of own_log s.raft) in
    let then : ServerState State = with_raft raft first in
    let es : List Entry = drop s.applied (take raft.commit raft.log) in
    let law : (apply_all queue_step es then).applied ≤ (apply_all queue_step es then).raft.commit =
    laws.noticed first op (omega (arith, current)) in
    let count : (apply_all queue_step es then).applied ≡ s.applied + length es = all-applied queue_step es then in
    let same : (apply_all queue_step es then).raft.commit ≡ raft.commit =
    ap (λ (r : Raft). r.commit) (all-raft queue_step es then) in
    omega (arith, law, count, same)

receive-rises : HasLaws → (rpc : Rpc) (queue : State) (s : Member) → s.applied ≡ s.raft.commit
    → s.applied ≤ (receive_raft rpc (server_of own_log s.raft)).commit
unfolding apply_committed
receive-rises laws rpc queue s current =
    let first : ServerState State = state_of own_log queue s in
    let raft : Raft = receive_raft rpc (server_of own_log s.raft) in
    let then : ServerState State = with_raft raft first in
    let es : List Entry = drop s.applied (take raft.commit raft.log) in
    let law : s.raft.commit ≤ (apply_all queue_step es then).raft.commit = laws.received first rpc in
    let same : (apply_all queue_step es then).raft.commit ≡ raft.commit =
    ap (λ (r : Raft). r.commit) (all-raft queue_step es then) in
    omega (arith, law, current, same)

-- ---- all members

-- what an event leaves of a group, and shows
pub record Leaves (args : QueueArgs) (k : Option ℕ) (g h : GroupState) (old new : Members) (rows : List AppliedRow)
    : Type 0 where
  pub group : IsGroupOf args h new
  pub down : StayDown old new
  pub told : AreTold k args g h rows

-- what is known of the group behind an event
pub record Follow (args : QueueArgs) (g h : GroupState) (old new : Members) : Type 0 where
  pub was : IsGroupOf args g old
  pub reached : IsReached h
  pub represents : Represents own_log h new
  pub audited : AreAudited queue_stands queue_step (empty_queue args) new
  pub grows : IsFront old.audit.items new.audit.items
  pub returned : KeepsReturned old new

up-before : (o p : Option Member) (t : Member) → Reaches o p → p ≡ Some t → (s : Member) × (o ≡ Some s)
up-before None p t reach up = absurd (none-some t (sym (reach.down refl) ∙ up))
up-before (Some s) p t reach up = (s, refl)

pub one-current : (args : QueueArgs) (g h : GroupState) (old new : Members) (k : ℕ) → Follow args g h old new
    → OthersStay k old new → Reaches (server_at k old) (server_at k new) → (q : ℕ) (t : Member)
    → server_at q new ≡ Some t → IsCurrent q t new
one-current args g h old new k f stay reach q t up = by (cases_eq q k)
  where
    own : server_at k new ≡ Some t → IsCurrent k t new
    own up = record {
      applied = reach.applied t up;
      kept = let s = up-before (server_at k old) (server_at k new) t reach up in
          f.returned k ∙ (f.was.current k s.0 s.1).kept;
    }

    by : (q ≡ k) ⊎ (q ≡ k → ⊥) → IsCurrent q t new
    by (inl same) =
        subst (λ (j : ℕ). IsCurrent j t new) (sym same)
        (own (subst (λ (j : ℕ). server_at j new ≡ Some t) same up))
    by (inr other) =
        let was : IsCurrent q t old = f.was.current q t (sym (ap server_by (stay q other)) ∙ up) in
        record { applied = was.applied; kept = ap returned_at (stay q other) ∙ was.kept }

pub one-down : (k : ℕ) (old new : Members) → OthersStay k old new → Reaches (server_at k old) (server_at k new)
    → StayDown old new
one-down k old new stay reach q down = by (cases_eq q k)
  where
    by : (q ≡ k) ⊎ (q ≡ k → ⊥) → server_at q new ≡ None
    by (inl same) =
        subst (λ (j : ℕ). server_at j new ≡ None) (sym same)
        (reach.down (subst (λ (j : ℕ). server_at j old ≡ None) same down))
    by (inr other) = ap server_by (stay q other) ∙ down

pub group-then : (args : QueueArgs) (g h : GroupState) (old new : Members) → Follow args g h old new
    → ((q : ℕ) (t : Member) → server_at q new ≡ Some t → IsCurrent q t new) → IsGroupOf args h new
group-then args g h old new f current =
    record { reached = f.reached; represents = f.represents; audited = f.audited; current = current }

nothing-told : (args : QueueArgs) (g h : GroupState) (rows : List AppliedRow) → rows ≡ []
    → AreTold None args g h rows
nothing-told args g h rows none = record {
  rows_are = ap (λ (l : List AppliedRow). audit_rows_of l) none;
  effects_are = ap (λ (l : List AppliedRow). effects_in l) none;
}

one-silent : (args : QueueArgs) (g h : GroupState) (old new : Members) (rows : List AppliedRow) (k : ℕ)
    → Follow args g h old new → OthersStay k old new → Reaches (server_at k old) (server_at k new) × (rows ≡ [])
    → Leaves args None g h old new rows
one-silent args g h old new rows k f stay reach = record {
  group = group-then args g h old new f (one-current args g h old new k f stay reach.0);
  down = one-down k old new stay reach.0;
  told = nothing-told args g h rows reach.1;
}

-- a member that a step reaches tells what it applies
one-telling : (args : QueueArgs) (g h : GroupState) (old new : Members) (rows : List AppliedRow) (k : ℕ)
    → Follow args g h old new → OthersStay k old new
    → Reaches (server_at k old) (server_at k new)
    × HasTold args (raft_of (server_at k old)) (raft_of (server_at k new)) rows
    → Leaves args (Some k) g h old new rows
one-telling args g h old new rows k f stay reach =
    let told : HasTold args (g.seat k).server (h.seat k).server rows =
    subst (λ (o : Option Raft). HasTold args o (h.seat k).server rows)
    (sym (seat-is g old k f.was.represents))
    (subst (λ (o : Option Raft). HasTold args (raft_of (server_at k old)) o rows)
    (sym (seat-is h new k f.represents)) reach.1) in
    record {
      group = group-then args g h old new f (one-current args g h old new k f stay reach.0);
      down = one-down k old new stay reach.0;
      told = record { rows_are = told.rows_are; effects_are = told.effects_are };
    }

-- no member is reached
none-silent : (args : QueueArgs) (g h : GroupState) (old new : Members) (rows : List AppliedRow)
    → Follow args g h old new → new.seats ≡ old.seats → rows ≡ [] → Leaves args None g h old new rows
none-silent args g h old new rows f same none =
    let stay : (q : ℕ) → slice_get new.seats.items q ≡ slice_get old.seats.items q =
    λ q. ap (λ seats. slice_get seats.items q) same in
    record {
      group = group-then args g h old new f
          (λ q t up. let was : IsCurrent q t old = f.was.current q t (sym (ap server_by (stay q)) ∙ up) in
          record { applied = was.applied; kept = ap returned_at (stay q) ∙ was.kept });
      down = λ q down. ap server_by (stay q) ∙ down;
      told = nothing-told args g h rows none;
    }

pub raft-none : (o : Option Member) → raft_of o ≡ None → o ≡ None
raft-none None down = refl
raft-none (Some s) down = absurd (none-some (server_of own_log s.raft) (sym down))

crashed : (args : QueueArgs) (g : GroupState) (old new : Members) (rows : List AppliedRow) (k : ℕ)
    → Follow args g (happens (Crash k) g) old new → OthersStay k old new → rows ≡ []
    → Leaves args None g (happens (Crash k) g) old new rows
crashed args g old new rows k f stay none =
    let h : GroupState = happens (Crash k) g in
    let down : server_at k new ≡ None =
    raft-none (server_at k new) (sym (seat-is h new k f.represents)
    ∙ ap (λ (s : SeatState). s.server) (put-same k _ g.seat)) in
    one-silent args g h old new rows k f stay (
      record { applied = λ t up. absurd (none-some t (sym down ∙ up)); down = λ _. down },
      none,
    )

-- ---- each event

within-log : HasLaws → (h : GroupState) (k : ℕ) (s : Raft) → IsReached h → (h.seat k).server ≡ Some s
    → s.commit ≤ length s.log
within-log laws h k s r up =
    laws.commit r.start r.whole r.events k s r.distinct r.opened
    (subst (λ (x : GroupState). (x.seat k).server ≡ Some s) r.is up)

-- what is known of the member that an event reaches, behind it
commits-within : HasLaws → (args : QueueArgs) (g h : GroupState) (old new : Members) (k : ℕ)
    → Follow args g h old new → (t : Member) → server_at k new ≡ Some t
    → t.raft.commit ≤ length t.raft.log.entries
commits-within laws args g h old new k f t up =
    within-log laws h k (server_of own_log t.raft) f.reached (seat-is h new k f.represents ∙ ap raft_of up)

at-in : (place : ℕ) (bag : List Rpc) (rpc : Rpc) → at_place place bag ≡ Some rpc → In rpc bag
at-in zero bag rpc is = absurd (none-some rpc is)
at-in (suc at) bag rpc is = in-at rpc bag at is

takes-at : (rpc : Rpc) (o : Option Member) → takes (raft_of o) rpc ≡ true → takes_at own_log rpc o ≡ true
takes-at rpc None is = refl
takes-at rpc (Some s) is = is

message : HasLaws → (args : QueueArgs) (g h : GroupState) (old new : Members) (rows : List AppliedRow) (o : Option Rpc)
    → AreSound old → Follow args g h old new → ((rpc : Rpc) → o ≡ Some rpc → In rpc old.bag)
    → HasShownMessage queue_stands queue_step own_log o old new rows → ReachesOne o old new
    → Leaves args (number_of (receiver_of o)) g h old new rows
message laws args g h old new rows None sound f here shown most = none-silent args g h old new rows f most shown
message laws args g h old new rows (Some rpc) sound f here shown most =
    let k : ℕ = (envelope rpc).to.0 in
    let taken : takes_at own_log rpc (server_at k old) ≡ true =
    takes-at rpc (server_at k old)
    (takes-is laws g old rpc f.was.reached f.was.represents sound (here rpc refl) (server_at k old) refl) in
    let by : HasShownBy queue_stands own_log (receive queue_step rpc) (server_at k old) (server_at k new) rows =
    subst (λ (b : Bool). OneOf b
    (HasShownBy queue_stands own_log (receive queue_step rpc) (server_at k old) (server_at k new) rows)
    (ShowsNothing (server_at k old) (server_at k new) rows)) taken shown in
    one-telling args g h old new rows k f most
    (acts args old.audit.items new.audit.items (receive queue_step rpc) (receive_raft rpc) (λ t. refl)
    (server_at k old) (server_at k new) rows (f.was.audited k) (λ s up. (f.was.current k s up).applied) f.grows
    (λ t up. laws.known h new k t f.reached f.represents up) (commits-within laws args g h old new k f)
    (λ s current. receive-rises laws rpc (empty_queue args) s current) by)

-- a notice of an op that the log wasn't handed tells nothing
same-told : (args : QueueArgs) (o p : Option Member) (rows : List AppliedRow) → ShowsNothing o p rows
    → IsCaughtUp o → Reaches o p × HasTold args (raft_of o) (raft_of p) rows
same-told args o p rows shown current = (
  record {
    applied = λ t up. current t (sym shown.0 ∙ up);
    down = λ none. shown.0 ∙ none;
  },
  subst (λ (x : Option Member). HasTold args (raft_of o) (raft_of x) rows) (sym shown.0)
      (none-told args (raft_of o) rows shown.1),
)

notice-told : HasLaws → (args : QueueArgs) (g h : GroupState) (old new : Members) (rows : List AppliedRow) (k op : ℕ)
    (lacks : Bool) → Follow args g h old new
    → HasShownNotice queue_stands queue_step own_log op lacks (server_at k old) (server_at k new) rows
    → Reaches (server_at k old) (server_at k new)
    × HasTold args (raft_of (server_at k old)) (raft_of (server_at k new)) rows
notice-told laws args g h old new rows k op true f shown =
    same-told args (server_at k old) (server_at k new) rows shown (λ s up. (f.was.current k s up).applied)
notice-told laws args g h old new rows k op false f shown =
    acts args old.audit.items new.audit.items (notice queue_step op) (notice_raft op) (λ t. refl)
    (server_at k old) (server_at k new) rows (f.was.audited k) (λ s up. (f.was.current k s up).applied) f.grows
    (λ t up. laws.known h new k t f.reached f.represents up) (commits-within laws args g h old new k f)
    (λ s current. notice-rises laws op (empty_queue args) s current) shown

silent : (args : QueueArgs) (g h : GroupState) (old new : Members) (rows : List AppliedRow) (k : ℕ)
    (f : ServerState State → ServerState State) (raft : Raft → Raft)
    → ((s : ServerState State) → f s ≡ with_raft (raft s.raft) s) → ((s : Raft) → (raft s).commit ≡ s.commit)
    → Follow args g h old new → HasShownBy queue_stands own_log f (server_at k old) (server_at k new) rows
    → OthersStay k old new → Leaves args None g h old new rows
silent args g h old new rows k f raft is same follow shown most =
    one-silent args g h old new rows k follow most
    (still args old.audit.items f raft is same (server_at k old) (server_at k new) rows (follow.was.audited k)
    (λ s up. (follow.was.current k s up).applied) shown)

by-event : HasLaws → (args : QueueArgs) (g : GroupState) (event : Event) (old new : Members) (rows : List AppliedRow)
    → AreSound old → Follow args g (group_after g (moves_of event)) old new
    → HasShownEvent queue_stands queue_step own_log event old new rows → ReachesAtMost event old new
    → Leaves args (teller event old) g (group_after g (moves_of event)) old new rows
by-event laws args g (events.Tick node) old new rows sound f shown most =
    silent args g _ old new rows node.0 tick tick_raft (λ t. refl) tick-same f shown most
by-event laws args g (events.Submit node time command) old new rows sound f shown most =
    silent args g _ old new rows node.0 (submit time command) (submit_raft time command) (λ t. refl)
    (submit-same time command) f shown most
by-event laws args g (events.Add node time command) old new rows sound f shown most =
    silent args g _ old new rows node.0 (add time command) (add_raft time command) (λ t. refl)
    (add-same time command) f shown most
by-event laws args g (events.Flush node) old new rows sound f shown most =
    silent args g _ old new rows node.0 flush flush_raft (λ t. refl) flush-same f shown most
by-event laws args g (events.Deliver place) old new rows sound f shown most =
    message laws args g _ old new rows (at_place place old.bag) sound f (at-in place old.bag) shown most
by-event laws args g (events.Lose place) old new rows sound f shown most =
    none-silent args g _ old new rows f most shown
by-event laws args g (events.Copy place) old new rows sound f shown most =
    none-silent args g _ old new rows f most shown
by-event laws args g (events.Notice node op) old new rows sound f shown most =
    one-telling args g _ old new rows node.0 f most
    (notice-told laws args g _ old new rows node.0 op (lacks_op node.0 op old) f shown)
by-event laws args g (events.Crash node) old new rows sound f shown most =
    crashed args g old new rows node.0 f most shown

pub happened : HasLaws → (args : QueueArgs) (g : GroupState) (event : Event) (old new : Members)
    (rows : List AppliedRow) → AreSound old → IsGroupOf args g old → Follows own_log (made_by event old) old new
    → HasShownEvent queue_stands queue_step own_log event old new rows → ReachesAtMost event old new
    → KeepsReturned old new → Leaves args (teller event old) g (group_after g (moves_of event)) old new rows
happened laws args g event old new rows sound it follows shown most returned =
    let h : GroupState = group_after g (moves_of event) in
    let represents : Represents own_log h new =
    subst (λ (x : GroupState). Represents own_log x new) (made-is laws args g event old sound it)
    (follows g it.reached it.represents) in
    by-event laws args g event old new rows sound (record {
      was = it;
      reached = laws.reached g (moves_of event) it.reached;
      represents = represents;
      audited = laws.servers args g event old new rows it.reached it.represents follows shown most it.audited;
      grows = laws.grows g (moves_of event) old new it.reached it.represents represents;
      returned = returned;
    }) shown most
