-- What a sync and a restart make of a queue.
use Rattle.std.proofs.Common.{◌≡◌, ◌⊎◌, ℕ, ◌-◌, true, false, cond, ◌&&◌, length, take, Option, Some, None, refl, sym, ap, subst, ◌∙◌, inl, inr}
use Rattle.std.specs.Prelude.{is_some, nat_le, slice_get}
use Rattle.std.proofs.lemmas.Bool.{and_from, cases_Bool, cases_eq, cond-true, cond-false, false≢true, le-leb}
use Rattle.std.proofs.lemmas.Option.{none-some}
use Rattle.qq_base.proofs.Puts.{put-other, put-same}
use Rattle.qq_base.specs.Fronts.{put}
use Rattle.qq_base.specs.declared.ids.NodeId.{NodeId}
use Rattle.qq_entry.specs.declared.queue.QueueArgs.{QueueArgs}
use Rattle.qq_log.specs.Log.{LogState}
use Rattle.qq_log.specs.Stable.{Stable, stable}
use Rattle.qq_log.specs.declared.op.Op.{Op}
use Rattle.qq_model.specs.State.{State, empty_queue}
use Rattle.qq_raft_core.specs.Raft.{server_of}
use Rattle.qq_raft_model.specs.Handing.{plain_state}
use Rattle.qq_raft_model.specs.Group.{Group as GroupState, Seat as SeatState, happens as moved, has_node, is_down, lane_with, may_restart, restart_by}
use Rattle.qq_raft_model.specs.Group.Event.{Restart}
use Rattle.qq_raft_model.specs.Server.{restart}
use Rattle.qq_raft_model.specs.State.{Server as Raft}
use Rattle.qq_queue.specs.declared.machine_queue.MachineQueue.{MachineQueue}
use Rattle.qq_group.specs.Follows.{OthersStay}
use Rattle.qq_group.specs.Group.{IsReached, Represents, server_at, server_by}
use Rattle.qq_group.specs.Handing.{held, returned_at}
use Rattle.qq_group.specs.Reads.{handed_at}
use Rattle.qq_group.specs.Restarts.{Finds, HasStarted, IsFound, Restarts, is_known}
use Rattle.qq_group.specs.declared.seat.Seat.{Seat}
use Rattle.qq_group_laws.specs.Audited.{AreAudited}
use Rattle.qq_cluster_model.specs.Queue.{Finds as FindsOps, Queue, Syncs, happens}
use Rattle.qq_queue.specs.ClusterQueue.{Becomes, Stands, count_at}
use Rattle.qq_queue.specs.Members.{IsCurrent, IsGroupOf, Member, Members, own_log, queue_stands, queue_step}
use Rattle.qq_queue.specs.Sessions.{Standings, clients_of, numbers_of}
use Rattle.qq_queue.specs.declared.cluster_queue.ClusterQueue.{ClusterQueue}
use Rattle.qq_queue.proofs.Happening.{tells-nothing, waits-nothing}
use Rattle.qq_queue.proofs.Members.{log-is, raft_of, seat-is}

-- two functions that are put the same at a number, and agree where it counts
put-both : (k : ℕ) (x : ℕ) (f h : ℕ → ℕ) (i : ℕ) → ((i ≡ k → ⊥) → f i ≡ h i) → put k x f i ≡ put k x h i
put-both k x f h i same = by (cases_eq i k)
  where
    by : (i ≡ k) ⊎ (i ≡ k → ⊥) → put k x f i ≡ put k x h i
    by (inl e) =
        subst (λ (j : ℕ). put k x f j ≡ put k x h j) (sym e) (put-same k x f ∙ sym (put-same k x h))
    by (inr other) = put-other k x f i other ∙ same other ∙ sym (put-other k x h i other)

pub none-of : {A : Type 0} (o : Option A) → is_some o ≡ false → o ≡ None
none-of None is = refl
none-of (Some x) is = absurd (false≢true (sym is))

pub some-of : {A : Type 0} (o : Option A) → is_some o ≡ true → (x : A) × (o ≡ Some x)
some-of None is = absurd (false≢true is)
some-of (Some x) is = (x, refl)

-- ---- syncs

-- how many ops the log of a member that is up was handed
handed-by : (g : GroupState) (group : Members) (k : ℕ) (o : Option (Seat MachineQueue LogState)) (s : Member)
    → Represents own_log g group → IsCurrent k s group → slice_get group.seats.items k ≡ o → server_by o ≡ Some s
    → handed_at o ≡ length (g.seat k).ops
handed-by g group k None s r current there up = absurd (none-some s up)
handed-by g group k (Some seat) s r current there up =
    let own = log-is g group k seat s r there up in
    let kept : seat.returned ≡ None = sym (ap returned_at there) ∙ current.kept in
    ap (λ (o : Option Member). cond (is_some o) (held seat) 0) up
    ∙ ap (λ (o : Option Op). cond (is_some o) (seat.handed - 1) seat.handed) kept
    ∙ sym own.handed

pub handed-is : (args : QueueArgs) (g : GroupState) (group : Members) (k : ℕ) (s : Member) → IsGroupOf args g group
    → server_at k group ≡ Some s → handed_at (slice_get group.seats.items k) ≡ length (g.seat k).ops
handed-is args g group k s it up =
    handed-by g group k (slice_get group.seats.items k) s it.represents (it.current k s up) refl up

noticed-by : (g : GroupState) (group : Members) (k : ℕ) (o : Option (Seat MachineQueue LogState)) (s : Member)
    → Represents own_log g group → slice_get group.seats.items k ≡ o → server_by o ≡ Some s
    → (g.seat k).noticed ≡ s.raft.noticed
noticed-by g group k None s r there up = absurd (none-some s up)
noticed-by g group k (Some seat) s r there up = (log-is g group k seat s r there up).noticed

pub noticed-is : (g : GroupState) (group : Members) (k : ℕ) (s : Member) → Represents own_log g group
    → server_at k group ≡ Some s → (g.seat k).noticed ≡ s.raft.noticed
noticed-is g group k s r up = noticed-by g group k (slice_get group.seats.items k) s r refl up

-- nothing of the queue but what is synced has changed
synced-stands : (sessions : Standings) (old new : ClusterQueue) (q r : Queue) → Stands sessions old q
    → new.args ≡ old.args → new.publishers ≡ old.publishers → new.consumers ≡ old.consumers → new.seats ≡ old.seats
    → new.untold ≡ old.untold → new.group ≡ old.group → r.args ≡ q.args → r.clients ≡ q.clients
    → r.consumers ≡ q.consumers → r.seats ≡ q.seats → r.untold ≡ q.untold → r.group ≡ q.group
    → ((k : ℕ) (s : Member) → server_at k old.group ≡ Some s → r.synced k ≡ count_at new.synced.each k)
    → Stands sessions new r
synced-stands sessions old new q r st args publishers consumers seats untold group a c known' seats' untold' g
    each = record {
      args = a ∙ st.args ∙ sym args;
      clients = c ∙ st.clients ∙ ap (λ (p : _). clients_of sessions (numbers_of p)) (sym publishers);
      consumers = known' ∙ st.consumers ∙ sym consumers;
      seats = seats' ∙ st.seats ∙ sym seats;
      untold = untold' ∙ st.untold ∙ sym untold;
      group = subst (λ (x : QueueArgs). IsGroupOf x r.group new.group) (sym args)
          (subst (λ (x : Members). IsGroupOf old.args r.group x) (sym group)
          (subst (λ (x : GroupState). IsGroupOf old.args x old.group) (sym g) st.group));
      synced = λ k s up. each k s (ap (λ (x : Members). server_at k x) (sym group) ∙ up);
    }

pub syncs-down : (k : ℕ) (old new : ClusterQueue) → server_at k old.group ≡ None → new ≡ old → Becomes (Syncs k) old new
syncs-down k old new down same sessions q st =
    let none : is_some (q.group.seat k).server ≡ false =
    ap is_some (seat-is q.group old.group k st.group.represents ∙ ap raft_of down) in (
      subst (λ (d : ClusterQueue). Stands sessions d (happens q (Syncs k))) (sym same)
          (synced-stands sessions old old q (happens q (Syncs k)) st refl refl refl refl refl refl refl refl refl refl
          (waits-nothing q.untold q.seats) refl
          (λ i s up. ap (λ (f : ℕ → ℕ). f i) (cond-false (is_some (q.group.seat k).server)
          (put k (length (q.group.seat k).ops) q.synced) q.synced none) ∙ st.synced i s up)),
      tells-nothing q.untold q.seats,
    )

pub syncs-up : (k : ℕ) (s : Member) (old new : ClusterQueue) (count : ℕ) → server_at k old.group ≡ Some s
    → count ≡ handed_at (slice_get old.group.seats.items k)
    → ((i : ℕ) → count_at new.synced.each i ≡ put k count (count_at old.synced.each) i) → new.args ≡ old.args
    → new.publishers ≡ old.publishers → new.consumers ≡ old.consumers → new.seats ≡ old.seats
    → new.untold ≡ old.untold → new.group ≡ old.group → Becomes (Syncs k) old new
syncs-up k s old new count up is set args publishers consumers seats untold group sessions q st =
    let some : is_some (q.group.seat k).server ≡ true =
    ap is_some (seat-is q.group old.group k st.group.represents ∙ ap raft_of up) in
    let long : length (q.group.seat k).ops ≡ count = sym (is ∙ handed-is old.args q.group old.group k s st.group up) in (
      synced-stands sessions old new q (happens q (Syncs k)) st args publishers consumers seats untold group refl refl
          refl refl (waits-nothing q.untold q.seats) refl
          (λ i t there. ap (λ (f : ℕ → ℕ). f i) (cond-true (is_some (q.group.seat k).server)
          (put k (length (q.group.seat k).ops) q.synced) q.synced some)
          ∙ ap (λ (n : ℕ). put k n q.synced i) long
          ∙ put-both k count q.synced (count_at old.synced.each) i (λ _. st.synced i t there) ∙ sym (set i)),
      tells-nothing q.untold q.seats,
    )

-- ---- restarts

-- a restart may take up what was found
pub may-find : (g : GroupState) (group : Members) (node : NodeId) (l : LogState) → Represents own_log g group
    → server_at node.0 group ≡ None → has_node node.0 group.nodes.items ≡ true → IsFound g node.0 l
    → may_restart node.0 l.op g ≡ true
may-find g group node l represents down member f =
    let k : ℕ = node.0 in
    and_from (is_down (g.seat k).server)
    (has_node k g.nodes && (nat_le (g.seat k).noticed l.op && nat_le l.op (length (g.seat k).ops)))
    (ap is_down (seat-is g group k represents ∙ ap raft_of down))
    (and_from (has_node k g.nodes) (nat_le (g.seat k).noticed l.op && nat_le l.op (length (g.seat k).ops))
    (ap (has_node k) represents.nodes ∙ member)
    (and_from (nat_le (g.seat k).noticed l.op) (nat_le l.op (length (g.seat k).ops))
    (le-leb (g.seat k).noticed l.op f.noticed) (le-leb l.op (length (g.seat k).ops) f.handed)))

pub restarted-group : (g : GroupState) (k : ℕ) (l : LogState) → may_restart k l.op g ≡ true → IsFound g k l
    → moved (Restart k l.op) g ≡ restart_by k l.op (Some (plain_state l.op l.term l.vote l.entries)) g
restarted-group g k l may f =
    cond-true (may_restart k l.op g) (restart_by k l.op (stable (take l.op (g.seat k).ops)) g) g may
    ∙ ap (λ (o : Option Stable). restart_by k l.op o g) f.is

pub restarted-at : (g : GroupState) (node : NodeId) (l : LogState) → may_restart node.0 l.op g ≡ true
    → IsFound g node.0 l → ((moved (Restart node.0 l.op) g).seat node.0).server
    ≡ Some (restart (record { 0 = node.0 }) g.nodes (lane_with g.queue (plain_state l.op l.term l.vote l.entries)))
restarted-at g node l may f =
    let k : ℕ = node.0 in
    ap (λ (h : GroupState). (h.seat k).server) (restarted-group g k l may f)
    ∙ ap (λ (s : SeatState). s.server) (put-same k _ g.seat)

pub some-is : {A : Type 0} (x y : A) → Some x ≡ Some y → x ≡ y
some-is x y e = cc

started-by : (machine : MachineQueue) (start : State) (o : Option Member) (t : Member)
    → HasStarted queue_stands machine o → queue_stands start machine → o ≡ Some t → t.applied ≡ 0
started-by machine start None t has stood up = absurd (none-some t up)
started-by machine start (Some s) t has stood up =
    subst (λ (x : Member). x.applied ≡ 0) (some-is s t up) (has start stood).1

-- what is asked of a restart, and what it leaves
pub record HasRestarted (args : QueueArgs) (node : NodeId) (l : LogState) (machine : MachineQueue)
    (old new : Members) : Type 0 where
  pub member : has_node node.0 old.nodes.items ≡ true
  pub down : server_at node.0 old ≡ None
  pub found : Finds own_log node.0 l old
  pub stood : queue_stands (empty_queue args) machine
  pub restarts : Restarts own_log node.0 l old new
  pub started : HasStarted queue_stands machine (server_at node.0 new)
  pub others : OthersStay node.0 old new
  pub returned : returned_at (slice_get new.seats.items node.0) ≡ None

found-now : (args : QueueArgs) (node : NodeId) (l : LogState) (machine : MachineQueue) (old new : Members)
    (g : GroupState) → HasRestarted args node l machine old new → IsGroupOf args g old
    → (is_known (slice_get old.seats.items node.0) ≡ false → IsFound g node.0 l) → IsFound g node.0 l
found-now args node l machine old new g r it unknown =
    elim (cases_Bool (is_known (slice_get old.seats.items node.0))) [
      | inl known ↦ r.found g it.represents known
      | inr other ↦ unknown other
    ]

pub restarted : (args : QueueArgs) (node : NodeId) (l : LogState) (machine : MachineQueue) (old new : Members)
    (g : GroupState) → HasRestarted args node l machine old new → IsGroupOf args g old
    → AreAudited queue_stands queue_step (empty_queue args) new → IsReached (moved (Restart node.0 l.op) g)
    → (is_known (slice_get old.seats.items node.0) ≡ false → IsFound g node.0 l)
    → (may_restart node.0 l.op g ≡ true) × IsGroupOf args (moved (Restart node.0 l.op) g) new
restarted args node l machine old new g r it audited reached unknown =
    let f : IsFound g node.0 l = found-now args node l machine old new g r it unknown in
    let may : may_restart node.0 l.op g ≡ true = may-find g old node l it.represents r.down r.member f in
    let h : GroupState = moved (Restart node.0 l.op) g in
    let represents : Represents own_log h new = r.restarts g it.represents unknown in (
      may,
      record {
        reached = reached;
        represents = represents;
        audited = audited;
        current = λ k t up. by represents may f k t up (cases_eq k node.0);
      },
    )
  where
    own : Represents own_log (moved (Restart node.0 l.op) g) new → may_restart node.0 l.op g ≡ true
        → IsFound g node.0 l → (t : Member) → server_at node.0 new ≡ Some t → IsCurrent node.0 t new
    own represents may f t up =
        let h : GroupState = moved (Restart node.0 l.op) g in
        let is : Some (server_of own_log t.raft)
        ≡ Some (restart (record { 0 = node.0 }) g.nodes (lane_with g.queue (plain_state l.op l.term l.vote l.entries))) =
        sym (seat-is h new node.0 represents ∙ ap raft_of up) ∙ restarted-at g node l may f in
        let same = some-is (server_of own_log t.raft) _ is in
        record {
          applied = started-by machine (empty_queue args) (server_at node.0 new) t r.started r.stood up
              ∙ sym (ap (λ (s : Raft). s.commit) same);
          kept = r.returned;
        }

    by : Represents own_log (moved (Restart node.0 l.op) g) new → may_restart node.0 l.op g ≡ true
        → IsFound g node.0 l → (k : ℕ) (t : Member) → server_at k new ≡ Some t → (k ≡ node.0) ⊎ (k ≡ node.0 → ⊥)
        → IsCurrent k t new
    by represents may f k t up (inl same) =
        subst (λ (j : ℕ). IsCurrent j t new) (sym same)
        (own represents may f t (subst (λ (j : ℕ). server_at j new ≡ Some t) same up))
    by represents may f k t up (inr other) =
        let was : IsCurrent k t old = it.current k t (sym (ap server_by (r.others k other)) ∙ up) in
        record { applied = was.applied; kept = ap returned_at (r.others k other) ∙ was.kept }

pub find-stands : (sessions : Standings) (old new : ClusterQueue) (q : Queue) (k op : ℕ) → Stands sessions old q
    → may_restart k op q.group ≡ true → IsGroupOf old.args (moved (Restart k op) q.group) new.group
    → OthersStay k old.group new.group → new.args ≡ old.args → new.publishers ≡ old.publishers
    → new.consumers ≡ old.consumers → new.seats ≡ old.seats → new.untold ≡ old.untold
    → ((i : ℕ) → count_at new.synced.each i ≡ put k op (count_at old.synced.each) i)
    → Stands sessions new (happens q (FindsOps k op))
find-stands sessions old new q k op st may group others args publishers consumers seats untold set = record {
  args = st.args ∙ sym args;
  clients = st.clients ∙ ap (λ (p : _). clients_of sessions (numbers_of p)) (sym publishers);
  consumers = st.consumers ∙ sym consumers;
  seats = st.seats ∙ sym seats;
  untold = waits-nothing q.untold q.seats ∙ st.untold ∙ sym untold;
  group = subst (λ (x : QueueArgs). IsGroupOf x (moved (Restart k op) q.group) new.group) (sym args) group;
  synced = λ i t up.
      ap (λ (f : ℕ → ℕ). f i) (cond-true (may_restart k op q.group) (put k op q.synced) q.synced may)
      ∙ put-both k op q.synced (count_at old.synced.each) i
      (λ other. st.synced i t (sym (ap server_by (others i other)) ∙ up))
      ∙ sym (set i);
}
