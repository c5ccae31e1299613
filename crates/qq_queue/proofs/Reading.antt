-- What a queue tells of itself is so of the queue that it stands for.
use Rattle.std.proofs.Common.{◌≡◌, ℕ, zero, suc, ◌+◌, ◌-◌, Bool, true, false, cond, ◌&&◌, List, length, Option, Some, None, refl, sym, ap, subst, ◌∙◌, arith}
use Rattle.std.specs.Prelude.{is_some, nat_eq, nat_lt, option_map, slice_get}
use Rattle.std.proofs.lemmas.Bool.{eq-eqb, le-ltb, lt-ltb, ne_eqb}
use Rattle.qq_entry.specs.declared.command.Entry.{Entry}
use Rattle.qq_entry.specs.declared.queue.QueueArgs.{QueueArgs}
use Rattle.qq_log.specs.Log.{LogState}
use Rattle.qq_raft_core.specs.Raft.{server_of, state_of}
use Rattle.qq_raft_model.specs.Group.{Event as Move, Group as GroupState, group_after}
use Rattle.qq_raft_model.specs.Promises.{AreDistinct, IsOpened, IsUp}
use Rattle.qq_raft_model.specs.State.{Server as Raft}
use Rattle.qq_queue.specs.declared.machine_queue.MachineQueue.{MachineQueue}
use Rattle.qq_group.specs.Group.{server_at, server_by}
use Rattle.qq_group.specs.Handing.{held}
use Rattle.qq_group.specs.Reads.{handed_at, member_at, noticed_by, op_at}
use Rattle.qq_group.specs.declared.seat.Seat.{Seat}
use Rattle.qq_cluster_model.specs.Queue.{Queue, waiting, waiting_by}
use Rattle.qq_cluster_model.specs.Rules.{is_quiet_at, is_settled, waits_noticed, waits_synced, waits_written}
use Rattle.qq_queue.specs.ClusterQueue.{Stands, count_at, is_up_at}
use Rattle.qq_queue.specs.Members.{IsGroupOf, Member, Members, own_log}
use Rattle.qq_queue.specs.Sessions.{Standings}
use Rattle.qq_queue.specs.declared.cluster_queue.ClusterQueue.{ClusterQueue}
use Rattle.qq_queue.proofs.Members.{raft_of, seat-is}
use Rattle.qq_queue.proofs.Finding.{handed-is, noticed-is}

-- what the law of the changes that a log was handed says
abbrev pub CountsOps : Type 0
CountsOps =
    (g : GroupState) (whole : List Entry) (moves : List Move) (k : ℕ) (s : Raft) → AreDistinct g.nodes
    → IsOpened g whole → IsUp (group_after g moves) k s
    → s.op ≡ length ((group_after g moves).seat k).ops + length s.ops

pub member-is : (o : Option Member) → member_at own_log o ≡ option_map state_of (raft_of o)
member-is None = refl
member-is (Some s) = refl

-- of a member that is up
record Counted (g : GroupState) (group : Members) (k : ℕ) (s : Member) : Type 0 where
  pub up : (g.seat k).server ≡ Some (server_of own_log s.raft)
  pub handed : handed_at (slice_get group.seats.items k) ≡ length (g.seat k).ops
  pub op : (server_of own_log s.raft).op ≡ length (g.seat k).ops + length (server_of own_log s.raft).ops
  pub noticed : (g.seat k).noticed ≡ s.raft.noticed

counted : CountsOps → (args : QueueArgs) (g : GroupState) (group : Members) (k : ℕ) (s : Member) → IsGroupOf args g group
    → server_at k group ≡ Some s → Counted g group k s
counted law args g group k s it up =
    let there : (g.seat k).server ≡ Some (server_of own_log s.raft) =
    seat-is g group k it.represents ∙ ap raft_of up in
    let r = it.reached in
    record {
      up = there;
      handed = handed-is args g group k s it up;
      op = subst (λ (x : GroupState). (server_of own_log s.raft).op
          ≡ length (x.seat k).ops + length (server_of own_log s.raft).ops) (sym r.is)
          (law r.start r.whole r.events k (server_of own_log s.raft) r.distinct r.opened
          (subst (λ (x : GroupState). (x.seat k).server ≡ Some (server_of own_log s.raft)) r.is there));
      noticed = noticed-is g group k s it.represents up;
    }

less-behind : (l w : ℕ) → nat_lt l (l + w) ≡ nat_lt 0 w
less-behind l zero = le-ltb l (l + 0) (omega arith) ∙ sym (le-ltb 0 0 (omega arith))
less-behind l (suc w) = lt-ltb l (l + suc w) (omega arith) ∙ sym (lt-ltb 0 (suc w) (omega arith))

same-behind : (l w : ℕ) → nat_eq (l + w) l ≡ nat_eq w 0
same-behind l zero = eq-eqb (l + 0) l (omega arith)
same-behind l (suc w) = ne_eqb (l + suc w) l (λ e. omega (arith, e)) ∙ sym (ne_eqb (suc w) 0 (λ e. omega (arith, e)))

handed-none : (o : Option (Seat MachineQueue LogState)) → server_by o ≡ None → handed_at o ≡ 0
handed-none None down = refl
handed-none (Some seat) down = ap (λ (x : Option Member). cond (is_some x) (held seat) 0) down

down-at : (args : QueueArgs) (g : GroupState) (group : Members) (k : ℕ) → IsGroupOf args g group
    → server_at k group ≡ None → (g.seat k).server ≡ None
down-at args g group k it down = seat-is g group k it.represents ∙ ap raft_of down

pub written-is : CountsOps → (sessions : Standings) (d : ClusterQueue) (q : Queue) (k : ℕ) → Stands sessions d q
    → nat_lt (handed_at (slice_get d.group.seats.items k)) (op_at own_log (server_at k d.group)) ≡ waits_written k q
written-is law sessions d q k st = by (server_at k d.group) refl
  where
    by : (o : Option Member) → server_at k d.group ≡ o
        → nat_lt (handed_at (slice_get d.group.seats.items k)) (op_at own_log (server_at k d.group)) ≡ waits_written k q
    by None down =
        ap (λ (n : ℕ). nat_lt n (op_at own_log (server_at k d.group)))
        (handed-none (slice_get d.group.seats.items k) down)
        ∙ ap (λ (o : Option Member). nat_lt 0 (op_at own_log o)) down
        ∙ sym (ap (λ (o : Option Raft). nat_lt 0 (waiting_by o)) (down-at d.args q.group d.group k st.group down))
    by (Some s) up =
        let c = counted law d.args q.group d.group k s st.group up in
        let raft : Raft = server_of own_log s.raft in
        ap (λ (n : ℕ). nat_lt n (op_at own_log (server_at k d.group))) c.handed
        ∙ ap (λ (o : Option Member). nat_lt (length (q.group.seat k).ops) (op_at own_log o)) up
        ∙ ap (nat_lt (length (q.group.seat k).ops)) c.op
        ∙ less-behind (length (q.group.seat k).ops) (length raft.ops)
        ∙ sym (ap (λ (o : Option Raft). nat_lt 0 (waiting_by o)) c.up)

pub waiting-is : CountsOps → (sessions : Standings) (d : ClusterQueue) (q : Queue) (k : ℕ) → Stands sessions d q
    → op_at own_log (server_at k d.group) - handed_at (slice_get d.group.seats.items k) ≡ waiting k q.group
waiting-is law sessions d q k st = by (server_at k d.group) refl
  where
    by : (o : Option Member) → server_at k d.group ≡ o
        → op_at own_log (server_at k d.group) - handed_at (slice_get d.group.seats.items k) ≡ waiting k q.group
    by None down =
        ap (λ (n : ℕ). op_at own_log (server_at k d.group) - n) (handed-none (slice_get d.group.seats.items k) down)
        ∙ ap (λ (o : Option Member). op_at own_log o - 0) down
        ∙ sym (ap waiting_by (down-at d.args q.group d.group k st.group down))
    by (Some s) up =
        let c = counted law d.args q.group d.group k s st.group up in
        let raft : Raft = server_of own_log s.raft in
        let op : op_at own_log (server_at k d.group) ≡ length (q.group.seat k).ops + length raft.ops =
        ap (op_at own_log) up ∙ c.op in
        let handed = c.handed in
        let less : op_at own_log (server_at k d.group) - handed_at (slice_get d.group.seats.items k)
        ≡ length raft.ops = omega (arith, op, handed) in
        less ∙ sym (ap waiting_by c.up)

pub nothing-waits : (sessions : Standings) (d : ClusterQueue) (q : Queue) (k : ℕ) (b : Bool) → Stands sessions d q
    → server_at k d.group ≡ None → false ≡ (is_up_at k q && b)
nothing-waits sessions d q k b st down =
    sym (ap (λ (o : Option Raft). is_some o && b) (down-at d.args q.group d.group k st.group down))

up-at : (sessions : Standings) (d : ClusterQueue) (q : Queue) (k : ℕ) (s : Member) → Stands sessions d q
    → server_at k d.group ≡ Some s → is_up_at k q ≡ true
up-at sessions d q k s st up = ap is_some (seat-is q.group d.group k st.group.represents ∙ ap raft_of up)

pub synced-is : (sessions : Standings) (d : ClusterQueue) (q : Queue) (k : ℕ) (s : Member) → Stands sessions d q
    → server_at k d.group ≡ Some s
    → nat_lt (count_at d.synced.each k) (handed_at (slice_get d.group.seats.items k))
    ≡ (is_up_at k q && waits_synced k q)
synced-is sessions d q k s st up =
    ap (λ (n : ℕ). nat_lt n (handed_at (slice_get d.group.seats.items k))) (sym (st.synced k s up))
    ∙ ap (nat_lt (q.synced k)) (handed-is d.args q.group d.group k s st.group up)
    ∙ sym (ap (λ (b : Bool). b && waits_synced k q) (up-at sessions d q k s st up))

pub told-is : (sessions : Standings) (d : ClusterQueue) (q : Queue) (k : ℕ) (s : Member) → Stands sessions d q
    → server_at k d.group ≡ Some s
    → nat_lt (noticed_by own_log (server_at k d.group)) (count_at d.synced.each k)
    ≡ (is_up_at k q && waits_noticed k q)
told-is sessions d q k s st up =
    ap (λ (o : Option Member). nat_lt (noticed_by own_log o) (count_at d.synced.each k)) up
    ∙ ap (λ (n : ℕ). nat_lt n (count_at d.synced.each k)) (sym (noticed-is q.group d.group k s st.group.represents up))
    ∙ ap (nat_lt (q.group.seat k).noticed) (sym (st.synced k s up))
    ∙ sym (ap (λ (b : Bool). b && waits_noticed k q) (up-at sessions d q k s st up))

pub settled-none : (sessions : Standings) (d : ClusterQueue) (q : Queue) (k : ℕ) → Stands sessions d q
    → server_at k d.group ≡ None → true ≡ is_quiet_at q (λ (i : ℕ). is_up_at i q) k
settled-none sessions d q k st down =
    sym (ap (λ (o : Option Raft). cond (is_some o) (is_settled k q) true)
    (down-at d.args q.group d.group k st.group down))

pub settled-is : CountsOps → (sessions : Standings) (d : ClusterQueue) (q : Queue) (k : ℕ) (s : Member)
    → Stands sessions d q → server_at k d.group ≡ Some s
    → (nat_eq (op_at own_log (server_at k d.group)) (handed_at (slice_get d.group.seats.items k))
    && nat_eq (noticed_by own_log (server_at k d.group)) (handed_at (slice_get d.group.seats.items k)))
    ≡ is_quiet_at q (λ (i : ℕ). is_up_at i q) k
settled-is law sessions d q k s st up =
    let c = counted law d.args q.group d.group k s st.group up in
    let raft : Raft = server_of own_log s.raft in
    let long : ℕ = length (q.group.seat k).ops in
    ap (λ (n : ℕ). nat_eq (op_at own_log (server_at k d.group)) n && nat_eq (noticed_by own_log (server_at k d.group)) n)
    c.handed
    ∙ ap (λ (o : Option Member). nat_eq (op_at own_log o) long && nat_eq (noticed_by own_log o) long) up
    ∙ ap (λ (n : ℕ). nat_eq n long && nat_eq s.raft.noticed long) c.op
    ∙ ap (λ (b : Bool). b && nat_eq s.raft.noticed long) (same-behind long (length raft.ops))
    ∙ ap (λ (n : ℕ). nat_eq (length raft.ops) 0 && nat_eq n long) (sym c.noticed)
    ∙ sym (ap (λ (o : Option Raft). cond (is_some o)
    (nat_eq (waiting_by o) 0 && nat_eq (q.group.seat k).noticed long) true) c.up)
