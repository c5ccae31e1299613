-- Queues whose members have just gone on with what was found.
use Rattle.std.proofs.Common.{◌≡◌, ℕ, Bool, true, false, List, [], length, take, Option, Some, None, refl, sym, ap, subst, ◌∙◌, arith, inl, inr}
use Rattle.std.specs.Bool.{Decides}
use Rattle.std.specs.Prelude.{is_some, slice_get}
use Rattle.std.proofs.lemmas.Bool.{cases_eq, false≢true}
use Rattle.std.proofs.lemmas.List.{take_all}
use Rattle.std.proofs.lemmas.Option.{none-some}
use Rattle.qq_base.specs.Fronts.{put}
use Rattle.qq_base.specs.declared.ids.NodeId.{NodeId}
use Rattle.qq_base.specs.declared.ids.QueueId.{QueueId}
use Rattle.qq_base.specs.declared.ids.Term.{Term}
use Rattle.qq_base.proofs.Puts.{put-other, put-same}
use Rattle.qq_entry.specs.declared.command.Entry.{Entry}
use Rattle.qq_log.specs.Log.{LogState}
use Rattle.qq_log.specs.Stable.{Stable, stable}
use Rattle.qq_log.specs.declared.op.Op.{Op}
use Rattle.qq_raft_core.specs.Raft.{server_of}
use Rattle.qq_raft_model.specs.Group.{Group as GroupState, Seat as SeatState, happens, has_node, lane_with, restart_by}
use Rattle.qq_raft_model.specs.Group.Event.{Restart}
use Rattle.qq_raft_model.specs.Handing.{plain_state}
use Rattle.qq_raft_model.specs.Promises.{IsOpened}
use Rattle.qq_raft_model.specs.Server.{restart}
use Rattle.qq_raft_model.specs.State.{Server as Raft}
use Rattle.qq_raft_model.proofs.Handing.{known-all}
use Rattle.qq_group.specs.Follows.{OthersStay}
use Rattle.qq_group.specs.Group.{IsSeat, IsSeatBy, Represents, server_at, server_by}
use Rattle.qq_group.specs.Opening.{IsAllDown}
use Rattle.qq_group.specs.Restarts.{HasStarted, IsFound, Restarts, noticed_at}
use Rattle.qq_group.specs.declared.seat.Seat.{Seat}
use Rattle.qq_queue.specs.declared.machine_queue.MachineQueue.{MachineQueue}
use Rattle.qq_agree.specs.Support.{HaveAll, SupportAudit}
use Rattle.qq_queue.specs.Agreeing.{BeginsWith, HasItsLogs, found_state, lane_by, lane_of, found_vote}
use Rattle.qq_queue.specs.Members.{Member, Members, own_log, queue_stands}
use Rattle.qq_queue.specs.declared.cluster_queue.ClusterQueue.{ClusterQueue}
use Rattle.qq_queue.proofs.Beginning.{all-down}
use Rattle.qq_queue.proofs.Finding.{may-find, restarted-at, restarted-group, some-is}
use Rattle.qq_queue.proofs.Logs.{AreLogs, IsLog, agree-opened, have-all, log-of, no-log, opened-agree, ops-count}
use Rattle.qq_queue.proofs.Members.{raft_of, seat-is}

-- ---- a queue whose members are down

-- a group of these nodes whose logs are these
over : QueueId → List NodeId → (ℕ → List Op) → GroupState
over queue nodes logs =
    record {
      queue = queue;
      nodes = nodes;
      seat = λ k. record { server = None; ops = logs k; noticed = length (logs k) };
      bag = [];
      audit = [];
    }

pub down-begins : (queue : QueueId) (nodes : List NodeId) (d : ClusterQueue)
    → ((g : GroupState) → IsAllDown queue nodes [] g → Represents own_log g d.group)
    → ((k : ℕ) → server_at k d.group ≡ None) → (logs : ℕ → List Op) → BeginsWith logs d
unfolding over
down-begins queue nodes d represents down logs = record {
  group = over queue nodes logs;
  represents = represents (over queue nodes logs)
      (record { queue_is = refl; nodes_is = refl; seats = λ k. refl; bag = refl; audit_is = refl });
  ops = λ k. refl;
  noticed = λ k. refl;
  each = λ k s up. absurd (none-some s (sym (down k) ∙ up));
}

pub all-are-down : (queue : QueueId) (nodes : List NodeId) (group : Members)
    → ((g : GroupState) → IsAllDown queue nodes [] g → Represents own_log g group) → (k : ℕ)
    → server_at k group ≡ None
unfolding over
all-are-down queue nodes group represents =
    let down : IsAllDown queue nodes [] (over queue nodes (λ k. [])) =
    record { queue_is = refl; nodes_is = refl; seats = λ k. refl; bag = refl; audit_is = refl } in
    all-down queue nodes [] group (over queue nodes (λ k. [])) (represents (over queue nodes (λ k. [])) down) down

-- ---- a member that goes on

pub started-up : (machine : MachineQueue) (o : Option Member) → HasStarted queue_stands machine o → is_some o ≡ true
started-up machine None has = absurd has
started-up machine (Some s) has = refl

-- the server that a log makes holds it
held-is : (l : LogState) (node : NodeId) (g : GroupState) (s : Member) (vote : Option NodeId)
    → Some (server_of own_log s.raft)
    ≡ Some (restart (record { 0 = node.0 }) g.nodes (lane_with g.queue (plain_state l.op l.term l.vote l.entries)))
    → vote ≡ l.vote → plain_state l.op l.term l.vote l.entries ≡ found_state vote s
held-is l node g s vote is same =
    let made = some-is (server_of own_log s.raft) _ is in
    let op : l.op ≡ s.raft.op = sym (ap (λ (r : Raft). r.op) made) in
    let term : l.term ≡ s.raft.term = sym (ap (λ (r : Raft). r.term) made) in
    let log : l.entries ≡ s.raft.log.entries = sym (known-all l.entries) ∙ sym (ap (λ (r : Raft). r.log) made) in
    ap (λ (n : ℕ). plain_state n l.term l.vote l.entries) op
    ∙ (ap (λ (t : Term). plain_state s.raft.op t l.vote l.entries) term
    ∙ (ap (λ (v : Option NodeId). plain_state s.raft.op s.raft.term v l.entries) (sym same)
    ∙ ap (λ (es : List Entry). plain_state s.raft.op s.raft.term vote es) log))

-- what the restart of a member leaves of each seat
record AreSeats (k op : ℕ) (logs : ℕ → List Op) (h : GroupState) : Type 0 where
  ops : (i : ℕ) → (h.seat i).ops ≡ logs i
  noticed : (i : ℕ) → (h.seat i).noticed ≡ length (logs i)

restarted-seats : (k : ℕ) (logs : ℕ → List Op) (g : GroupState) (s : Stable) → s.op ≡ length (logs k)
    → ((i : ℕ) → (g.seat i).ops ≡ logs i) → ((i : ℕ) → (g.seat i).noticed ≡ length (logs i))
    → AreSeats k s.op logs (restart_by k s.op (Some s) g)
restarted-seats k logs g s count ops noticed = record {
  ops = λ i. elim (cases_eq i k) [
    | inl same ↦
        subst (λ (j : ℕ). ((restart_by k s.op (Some s) g).seat j).ops ≡ logs j) (sym same)
        (ap (λ (x : SeatState). x.ops) (put-same k _ g.seat) ∙ (ap (take s.op) (ops k)
        ∙ take_all s.op (logs k) (omega (arith, count))))
    | inr other ↦ ap (λ (x : SeatState). x.ops) (put-other k _ g.seat i other) ∙ ops i
  ];
  noticed = λ i. elim (cases_eq i k) [
    | inl same ↦
        subst (λ (j : ℕ). ((restart_by k s.op (Some s) g).seat j).noticed ≡ length (logs j)) (sym same)
        (ap (λ (x : SeatState). x.noticed) (put-same k _ g.seat) ∙ count)
    | inr other ↦ ap (λ (x : SeatState). x.noticed) (put-other k _ g.seat i other) ∙ noticed i
  ];
}

-- what is asked of a member that goes on, and what it leaves
pub record HasGoneOn (node : NodeId) (l : LogState) (old new : ClusterQueue) : Type 0 where
  pub member : has_node node.0 old.group.nodes.items ≡ true
  pub down : server_at node.0 old.group ≡ None
  pub restarts : Restarts own_log node.0 l old.group new.group
  pub others : OthersStay node.0 old.group new.group
  pub votes : (i : ℕ) → found_vote new.votes.each i ≡ put node.0 l.vote (found_vote old.votes.each) i

pub goes-on : (node : NodeId) (l : LogState) (old new : ClusterQueue) → HasGoneOn node l old new → (logs : ℕ → List Op)
    → BeginsWith logs old → stable (logs node.0) ≡ Some (plain_state l.op l.term l.vote l.entries)
    → BeginsWith logs new
goes-on node l old new made logs b is =
    let k : ℕ = node.0 in
    let g : GroupState = b.group in
    let state : Stable = plain_state l.op l.term l.vote l.entries in
    let count : l.op ≡ length (logs k) = ops-count (logs k) state is in
    let f : IsFound g k l = record {
      noticed = omega (arith, b.noticed k, count);
      handed = omega (arith, ap length (b.ops k), count);
      is = ap stable (ap (take l.op) (b.ops k) ∙ take_all l.op (logs k) (omega (arith, count))) ∙ is;
    } in
    let may = may-find g old.group node l b.represents made.down made.member f in
    let h : GroupState = happens (Restart k l.op) g in
    let represents : Represents own_log h new.group = made.restarts g b.represents (λ _. f) in
    let seats : AreSeats k l.op logs h =
    subst (λ (x : GroupState). AreSeats k l.op logs x) (sym (restarted-group g k l may f))
    (restarted-seats k logs g state count b.ops b.noticed) in
    record {
      group = h;
      represents = represents;
      ops = seats.ops;
      noticed = seats.noticed;
      each = λ i s up. elim (cases_eq i k) [
        | inl same ↦
            let here : server_at k new.group ≡ Some s = subst (λ (j : ℕ). server_at j new.group ≡ Some s) same up in
            let raft = sym (seat-is h new.group k represents ∙ ap raft_of here) ∙ restarted-at g node l may f in
            let vote : found_vote new.votes.each k ≡ l.vote =
            made.votes k ∙ put-same k l.vote (found_vote old.votes.each) in
            subst (λ (j : ℕ). stable (logs j) ≡ Some (found_state (found_vote new.votes.each j) s)) (sym same)
            (is ∙ ap Some (held-is l node g s (found_vote new.votes.each k) raft vote))
        | inr other ↦
            let was : server_at i old.group ≡ Some s = sym (ap server_by (made.others i other)) ∙ up in
            let vote : found_vote new.votes.each i ≡ found_vote old.votes.each i =
            made.votes i ∙ put-other k l.vote (found_vote old.votes.each) i other in
            b.each i s was ∙ ap (λ (v : Option NodeId). Some (found_state v s)) (sym vote)
      ];
    }

-- ---- whether the logs agree

are-logs : (d : ClusterQueue) (g : GroupState) → HasItsLogs d g → AreLogs g (lane_of d)
are-logs d g it = record {
  down = it.down.seats;
  bag = it.down.bag;
  audit = it.down.audit_is;
  noticed = it.noticed;
  each = λ k. own k (server_at k d.group) refl;
  others = it.others;
}
  where
    own : (k : ℕ) (o : Option Member) → server_at k d.group ≡ o → IsLog (g.seat k).ops (lane_of d k)
    own k None down =
        subst (λ (x : Option Member). IsLog (g.seat k).ops (lane_by (found_vote d.votes.each k) x)) (sym down)
        (no-log (g.seat k).ops (it.empty k down))
    own k (Some s) up =
        subst (λ (x : Option Member). IsLog (g.seat k).ops (lane_by (found_vote d.votes.each k) x)) (sym up)
        (log-of (g.seat k).ops s.raft.op s.raft.term (found_vote d.votes.each k) s.raft.log.entries
        (it.begins.each k s up))

-- the answer is whether the lanes support an audit, where nobody but the members has entries
abbrev pub IsAnswer : ClusterQueue → Bool → Type 0
IsAnswer d r =
    HaveAll d.group.nodes.items (lane_of d) → Decides r (SupportAudit d.group.nodes.items (lane_of d))

decided : (d : ClusterQueue) (r : Bool) (g : GroupState) → IsAnswer d r → HasItsLogs d g
    → Decides r (SupportAudit g.nodes (lane_of d))
decided d r g answer it =
    let logs = are-logs d g it in
    subst (λ (nodes : List NodeId). Decides r (SupportAudit nodes (lane_of d))) (sym it.down.nodes_is)
    (answer (subst (λ (nodes : List NodeId). HaveAll nodes (lane_of d)) it.down.nodes_is
    (have-all g (lane_of d) logs)))

pub agrees : (d : ClusterQueue) (r : Bool) → IsAnswer d r → (g : GroupState) → HasItsLogs d g → r ≡ true
    → IsOpened g []
agrees d r answer g it agree =
    agree-opened g (lane_of d) (are-logs d g it) ((decided d r g answer it).0 agree)

pub refuses : (d : ClusterQueue) (r : Bool) → IsAnswer d r → (g : GroupState) (whole : List Entry) → HasItsLogs d g
    → r ≡ false → IsOpened g whole → ⊥
refuses d r answer g whole it refuse opened =
    false≢true (sym refuse
    ∙ (decided d r g answer it).1 (opened-agree g (lane_of d) whole (are-logs d g it) opened))

-- ---- what is told of a member that is up

-- it was told that all of its log is durable
pub begins-noticed : (logs : ℕ → List Op) (d : ClusterQueue) (k : ℕ) → BeginsWith logs d
    → is_some (server_at k d.group) ≡ true → noticed_at (slice_get d.group.seats.items k) ≡ length (logs k)
begins-noticed logs d k b up = by (slice_get d.group.seats.items k) refl up
  where
    seat-noticed : (seat : Seat MachineQueue LogState) (o : Option Member) → IsSeatBy own_log (b.group.seat k) seat o
        → is_some o ≡ true → (b.group.seat k).noticed ≡ seat.noticed
    seat-noticed seat None is some = absurd (false≢true some)
    seat-noticed seat (Some s) is some = is.1.noticed

    by : (o : Option (Seat MachineQueue LogState)) → slice_get d.group.seats.items k ≡ o
        → is_some (server_by o) ≡ true → noticed_at o ≡ length (logs k)
    by None past some = absurd (false≢true some)
    by (Some seat) here some =
        sym (seat-noticed seat seat.server (subst (IsSeat own_log (b.group.seat k)) here (b.represents.seats k)) some)
        ∙ b.noticed k
