-- What a restart makes of the states that a group stands for, and groups without servers.
use Rattle.std.proofs.Common.{◌≡◌, ℕ, ◌≤◌, ◌&&◌, ◌++◌, Bool, true, false, leb, List, [], length, take, Option, Some, None, refl, sym, ap, subst, ◌∙◌, arith, inl, inr}
use Rattle.std.specs.Bool.{Decides}
use Rattle.std.specs.Prelude.{slice_get}
use Rattle.std.proofs.lemmas.Bool.{cond-true, false≢true, le-leb}
use Rattle.std.proofs.lemmas.List.{append-nil, length-take}
use Rattle.std.proofs.lemmas.List.Elements.{All-get_or}
use Rattle.std.proofs.lemmas.Option.{slice_get_cases}
use Rattle.qq_base.specs.declared.ids.NodeId.{NodeId}
use Rattle.qq_base.specs.declared.ids.QueueId.{QueueId}
use Rattle.qq_base.specs.declared.ids.Term.{Term}
use Rattle.qq_entry.specs.declared.command.Entry.{Entry}
use Rattle.qq_log.specs.Log.{LogState}
use Rattle.qq_log.specs.Stable.{Stable, stable}
use Rattle.qq_log.specs.declared.op.Op.{Op}
use Rattle.qq_raft_core.specs.Raft.{server_of, lane_of}
use Rattle.qq_raft_core.specs.Undone.{Held, found, held_after, held_by, newest, stable_of}
use Rattle.qq_raft_core.specs.declared.lanes.Lanes.{Lanes}
use Rattle.qq_raft_core.specs.declared.undo.Undo.{Undo}
use Rattle.qq_raft_model.proofs.Handing.{known-all}
use Rattle.qq_raft_model.specs.Handing.{plain_state}
use Rattle.qq_raft_model.specs.Server.{restart}
use Rattle.qq_raft_model.specs.State.{Server as Raft}
use Rattle.qq_raft.specs.declared.server.Server.{Server}
use Rattle.qq_raft_model.specs.Group.{Group as GroupState, Seat as SeatState, happens, has_node, is_down, lane_with, may_restart, restart_by}
use Rattle.qq_raft_model.specs.Group.Event.{Restart}
use Rattle.qq_raft.specs.Stands.{StandsFor}
use Rattle.qq_raft.specs.Step.{new_state}
use Rattle.qq_group.specs.Follows.{OthersStay}
use Rattle.qq_group.specs.Group.{HasLeft, HasMade, IsLeft, IsSeat, IsSeatBy, IsServed, HasReturned, IsReturned, KnowsLeft, LeadsTo, Represents, server_at, server_by}
use Rattle.qq_group.specs.Opening.{AreEmpty, IsAllDown, IsEmpty, IsFresh, IsOpened, OpensOver, Start, Starts}
use Rattle.qq_group.specs.Restarts.{Finds, HasStarted, Holds, IsFound, IsIntactAt, IsLost, IsStarted, Restarts, is_known, started_seat}
use Rattle.qq_group.specs.declared.group.Group.{Group}
use Rattle.qq_group.specs.declared.seat.Seat.{Seat}
use Rattle.qq_group.proofs.Intact.{same-state}
use Rattle.qq_group.proofs.LeadsTo.{held_of, leads-new}
use Rattle.qq_group.proofs.Stepped.{changed-other, changed-own, is-down, represents-put}

-- ---- groups without servers

each-seat : {Q L : Type 0} (xs : List (Seat Q L)) (P : Option (Seat Q L) → Type 0) → AreEmpty xs → P None
    → ((s : Seat Q L) → IsEmpty s → P (Some s)) → (k : ℕ) → P (slice_get xs k)
each-seat {Q = Q} {L = L} xs P all none some k =
    elim (slice_get_cases xs k).1 [
      | inl found ↦ subst P (sym found.2)
          (some found.0 (subst IsEmpty found.3 (All-get_or IsEmpty xs k found.0 found.1 all.each)))
      | inr beyond ↦ subst P (sym beyond.1) none
    ]

pub empty-served : {P Q L : Type 0} (stands : P → Q → Type 0) (log : L → LogState) (index_of : Q → ℕ)
    (xs : List (Seat Q L)) → AreEmpty xs → (k : ℕ) → IsServed stands log index_of (server_by (slice_get xs k))
empty-served stands log index_of xs all =
    each-seat xs (λ o. IsServed stands log index_of (server_by o)) all tt
    (λ s e. subst (IsServed stands log index_of) (sym e.server) tt)

pub empty-returned : {Q L : Type 0} (xs : List (Seat Q L)) → AreEmpty xs → (k : ℕ) → HasReturned (slice_get xs k)
empty-returned xs all =
    each-seat xs (λ o. HasReturned o) all tt (λ s e. subst IsReturned (sym e.returned) tt)

pub empty-left : {Q L : Type 0} (log : L → LogState) (xs : List (Seat Q L)) → AreEmpty xs → (k : ℕ)
    → HasLeft log (slice_get xs k)
empty-left log xs all = each-seat xs (λ o. HasLeft log o) all tt (λ s e. subst (IsLeft log) (sym e.left) tt)

empty-seat : {Q L : Type 0} (log : L → LogState) (state : SeatState) (s : Seat Q L) → IsEmpty s
    → state.server ≡ None → IsSeatBy log state s s.server
empty-seat log state s e down =
    subst (IsSeatBy log state s) (sym e.server) (down, λ known. absurd (false≢true (sym e.unknown ∙ known)))

opened : {Q L : Type 0} (log : L → LogState) (queue : QueueId) (nodes : List NodeId) (audit : List Entry)
    (g : GroupState) (group : Group Q L) → IsOpened queue nodes audit group → IsAllDown queue nodes audit g
    → Represents log g group
opened log queue nodes audit g group o down = record {
  queue = down.queue_is ∙ sym o.queue_is;
  nodes = down.nodes_is ∙ sym o.nodes_is;
  bag = down.bag ∙ sym o.bag;
  audit = down.audit_is ∙ sym o.audit_is;
  seats = λ k. each-seat group.seats.items (IsSeat log (g.seat k)) o.seats (down.seats k)
      (λ s e. empty-seat log (g.seat k) s e (down.seats k)) k;
}

pub opened-fresh : {Q L : Type 0} (queue : QueueId) (nodes : List NodeId) (audit : List Entry) (group : Group Q L)
    → IsOpened queue nodes audit group → (k : ℕ) → IsFresh group k
opened-fresh queue nodes audit group o k = (
  each-seat group.seats.items (λ seat. server_by seat ≡ None) o.seats refl (λ s e. e.server) k,
  each-seat group.seats.items (λ seat. is_known seat ≡ false) o.seats refl (λ s e. e.unknown) k,
)

pub opens-over : {Q L : Type 0} (log : L → LogState) (queue : QueueId) (nodes : List NodeId) (audit : List Entry)
    (starts : List (Start Q L)) (first group : Group Q L) → IsOpened queue nodes audit first
    → Starts log starts first group → OpensOver log queue nodes audit starts group
opens-over log queue nodes audit starts first group o made = λ g down found.
    made g (opened log queue nodes audit g first o down) found

-- ---- restarts

-- the server that the log's disk tells of
restart-with : NodeId → List NodeId → QueueId → ℕ → Term → Option NodeId → List Entry → LogState → Raft
restart-with node nodes queue op term vote entries l =
    restart node nodes (record (lane_of queue l) { op = op; term = term; vote = vote; entries = entries })

restarted : (node : NodeId) (g : GroupState) (l : LogState)
    → restart node g.nodes (lane_with g.queue (plain_state l.op l.term l.vote l.entries))
    ≡ restart node g.nodes (lane_of g.queue l)
unfolding restart-with
restarted node g l =
    ap (λ es. restart-with node g.nodes g.queue l.op l.term l.vote es l) (known-all l.entries)

and-true : (a b : Bool) → a ≡ true → b ≡ true → (a && b) ≡ true
and-true true b p q = q
and-true false b p q = absurd (false≢true p)

-- what is known of the log of a member that is down
known-log : {Q L : Type 0} (log : L → LogState) (state : SeatState) (seat : Seat Q L) → IsSeatBy log state seat seat.server
    → seat.server ≡ None → seat.known ≡ true → KnowsLeft log state seat seat.left
known-log log state seat is down known = (subst (IsSeatBy log state seat) down is).1 known

intact-left : {Q L : Type 0} (log : L → LogState) (g : GroupState) (k : ℕ) (l : LogState) (seat : Seat Q L)
    (o : Option (Lanes L)) → KnowsLeft log (g.seat k) seat o → seat.noticed ≤ l.op → l.op ≤ seat.handed → Holds log l o
    → IsFound g k l
intact-left {Q = Q} {L = L} log g k l seat None knows from to holds = elim knows [ ]
intact-left log g k l seat (Some lanes) knows from to holds =
    let le : (g.seat k).noticed ≤ l.op = omega (arith, knows.noticed, from) in
    let within : l.op ≤ length (g.seat k).ops = omega (arith, knows.handed, to) in
    record {
      noticed = le;
      handed = within;
      is = knows.leads l.op le within ∙ ap (λ (h : Held). Some (stable_of h)) holds;
    }

intact-by : {Q L : Type 0} (log : L → LogState) (g : GroupState) (k : ℕ) (l : LogState) (o : Option (Seat Q L))
    → IsSeat log (g.seat k) o → server_by o ≡ None → IsIntactAt log o l → is_known o ≡ true → IsFound g k l
intact-by log g k l None is down intact known = absurd (false≢true known)
intact-by log g k l (Some seat) is down intact known =
    let i = intact known in
    intact-left log g k l seat seat.left (known-log log (g.seat k) seat is down known) i.0 i.1 i.2

-- a log that is intact is found
pub finds : {Q L : Type 0} (log : L → LogState) (k : ℕ) (l : LogState) (old : Group Q L)
    → IsIntactAt log (slice_get old.seats.items k) l → server_at k old ≡ None → Finds log k l old
finds log k l old intact down = λ g r known.
    intact-by log g k l (slice_get old.seats.items k) (r.seats k) down intact known

some-is : {A : Type 0} (x y : A) → Some x ≡ Some y → x ≡ y
some-is x y e = grind (arith, e)

found-left : {Q L : Type 0} (log : L → LogState) (g : GroupState) (k : ℕ) (l : LogState) (seat : Seat Q L)
    (o : Option (Lanes L)) → KnowsLeft log (g.seat k) seat o → IsFound g k l
    → (seat.noticed ≤ l.op) × (l.op ≤ seat.handed) × Holds log l o
found-left {Q = Q} {L = L} log g k l seat None knows f = elim knows [ ]
found-left log g k l seat (Some lanes) knows f =
    let noticed = f.noticed in
    let handed = f.handed in
    let held = held_after l.op lanes.undos.items (newest log lanes) in (
      omega (arith, knows.noticed, noticed),
      omega (arith, knows.handed, handed),
      same-state held (found l)
          (some-is (stable_of held) (stable_of (found l)) (sym (knows.leads l.op f.noticed f.handed) ∙ f.is)),
    )

found-by : {Q L : Type 0} (log : L → LogState) (g : GroupState) (k : ℕ) (l : LogState) (o : Option (Seat Q L))
    → IsSeat log (g.seat k) o → server_by o ≡ None → IsFound g k l → IsIntactAt log o l
found-by log g k l None is down f = tt
found-by log g k l (Some seat) is down f = λ known.
    found-left log g k l seat seat.left (known-log log (g.seat k) seat is down known) f

unknown-intact : {Q L : Type 0} (log : L → LogState) (o : Option (Seat Q L)) (l : LogState) → is_known o ≡ false
    → IsIntactAt log o l
unknown-intact log None l unknown = tt
unknown-intact log (Some seat) l unknown = λ known. absurd (false≢true (sym unknown ∙ known))

known-cases : (b : Bool) → (b ≡ false → ⊥) → b ≡ true
known-cases true other = refl
known-cases false other = absurd (other refl)

-- and one that isn't intact is lost
pub loses : {Q L : Type 0} (log : L → LogState) (k : ℕ) (l : LogState) (old : Group Q L) (intact : Bool)
    → Decides intact (IsIntactAt log (slice_get old.seats.items k) l) → intact ≡ false
    → server_at k old ≡ None → IsLost log k l old
loses log k l old intact decides not_intact down =
    let seat = slice_get old.seats.items k in
    record {
      known = known-cases (is_known seat) (λ unknown.
          false≢true (sym not_intact ∙ decides.1 (unknown-intact log seat l unknown)));
      other = λ g r f.
          false≢true (sym not_intact ∙ decides.1 (found-by log g k l seat (r.seats k) down f));
    }

found-or : {Q L : Type 0} (log : L → LogState) (g : GroupState) (k : ℕ) (l : LogState) (old : Group Q L) (b : Bool)
    → is_known (slice_get old.seats.items k) ≡ b → Represents log g old → Finds log k l old
    → (is_known (slice_get old.seats.items k) ≡ false → IsFound g k l) → IsFound g k l
found-or log g k l old true known r finds_it unknown = finds_it g r known
found-or log g k l old false known r finds_it unknown = unknown known

pub restarts : {Q L : Type 0} (log : L → LogState) (node : NodeId) (l : LogState) (s : Server Q L)
    (old new : Group Q L) → has_node node.0 old.nodes.items ≡ true → server_at node.0 old ≡ None
    → Finds log node.0 l old → server_of log s.raft ≡ restart node old.nodes.items (lane_of old.queue l)
    → s.raft.undos.items ≡ [] → IsStarted node.0 s.raft.op s old new → Restarts log node.0 l old new
restarts {Q = Q} {L = L} log node l s old new member down finds_it made none t = λ g r unknown.
    let k = node.0 in
    let f : IsFound g k l =
    found-or log g k l old (is_known (slice_get old.seats.items k)) refl r finds_it unknown in
    let may : may_restart k l.op g ≡ true =
    and-true (is_down (g.seat k).server) _ (ap is_down (is-down log g k old r down))
    (and-true (has_node k g.nodes) _ (ap (has_node k) r.nodes ∙ member)
    (and-true (leb (g.seat k).noticed l.op) _ (le-leb (g.seat k).noticed l.op f.noticed)
    (le-leb l.op (length (g.seat k).ops) f.handed))) in
    let state_found : Stable = plain_state l.op l.term l.vote l.entries in
    let state : SeatState = record {
      server = Some (restart (record { 0 = k }) g.nodes (lane_with g.queue state_found));
      ops = take l.op (g.seat k).ops;
      noticed = l.op;
    } in
    let now : Seat Q L = started_seat s.raft.op s t.was in
    let op : s.raft.op ≡ l.op = ap (λ (x : Raft). x.op) made in
    let none_wait : s.raft.ops.items ≡ [] = ap (λ (x : Raft). x.ops) made in
    let held : held_by log s.raft ≡ found l = ap held_of made in
    let ops = take l.op (g.seat k).ops in
    let all : ops ++ s.raft.ops.items ≡ ops =
    ap (λ (os : List Op). ops ++ os) none_wait ∙ append-nil ops in
    let count : length ops ≡ l.op = omega (arith, length-take l.op (g.seat k).ops, f.handed) in
    let same : happens (Restart k l.op) g ≡ restart_by k l.op (Some state_found) g =
    cond-true (may_restart k l.op g) (restart_by k l.op (stable (take l.op (g.seat k).ops)) g) g may
    ∙ ap (λ o. restart_by k l.op o g) f.is in
    let server : restart node g.nodes (lane_with g.queue state_found) ≡ server_of log s.raft =
    restarted node g l
    ∙ ap (λ q. restart node g.nodes (lane_of q l)) r.queue
    ∙ ap (λ ns. restart node ns (lane_of old.queue l)) r.nodes ∙ sym made in
    subst (λ h. Represents log h new) (sym same)
    (represents-put log g k state t.was now g.bag g.audit old new r t.changes (
      ap Some server,
      record {
        noticed = sym op;
        handed = count ∙ sym op;
        leads = subst (LeadsTo l.op (ops ++ s.raft.ops.items) s.raft.undos.items) (sym held)
            (subst (λ (us : List Undo). LeadsTo l.op (ops ++ s.raft.ops.items) us (found l)) (sym none)
            (subst (λ (os : List Op). LeadsTo l.op os [] (found l)) (sym all)
            (leads-new (g.seat k).ops (found l) f.handed f.is)));
      },
      op ∙ sym (ap (λ (x : Raft). x.noticed) made),
      subst (HasMade (ops ++ s.raft.ops.items)) (sym held)
          (subst (λ (os : List Op). HasMade os (found l)) (sym all) (record { count = sym count; is = f.is })),
    )
    (r.bag ∙ sym t.bag) (r.audit ∙ ap (λ a. a.items) (sym t.audit)))

pub started-others : {Q L : Type 0} (k op : ℕ) (s : Server Q L) (old new : Group Q L)
    → IsStarted k op s old new → OthersStay k old new
started-others k op s old new t = λ q other. changed-other k q t.was _ old new t.changes other

pub has-started : {P Q L : Type 0} (stands : P → Q → Type 0) (log : L → LogState) (raft : Raft) (machine : Q)
    (k op : ℕ) (s : Server Q L) (old new : Group Q L) → IsStarted k op s old new
    → ((queue : P) → stands queue machine → StandsFor stands log (new_state raft queue) s)
    → HasStarted stands machine (server_at k new)
has-started {Q = Q} {L = L} stands log raft machine k op s old new t made =
    subst (λ (o : Option (Server Q L)). HasStarted stands machine o)
    (sym (ap server_by (changed-own k t.was _ old new t.changes)))
    (λ queue stood. ((made queue stood).queue, (made queue stood).applied, (made queue stood).rows))
