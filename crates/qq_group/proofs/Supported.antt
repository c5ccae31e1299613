-- Logs that support an audit: there are ops that come to them, so that a group over them is reached.
use Rattle.std.proofs.Common.{◌≡◌, ℕ, ◌≤◌, Option, Some, None, List, [], ◌∷◌, length, take, refl, sym, ap, ◌∙◌, append-nil, take_all, arith}
use Rattle.std.specs.Prelude.{option_map}
use Rattle.qq_base.specs.Fronts.{IsFront}
use Rattle.qq_base.specs.declared.ids.NodeId.{NodeId}
use Rattle.qq_base.specs.declared.ids.QueueId.{QueueId}
use Rattle.qq_entry.specs.declared.command.Entry.{Entry}
use Rattle.qq_log.specs.Log.{LogState}
use Rattle.qq_log.specs.Stable.{Stable, no_snapshot, stable}
use Rattle.qq_raft_protocol.specs.Facts.{In}
use Rattle.qq_raft_protocol.specs.Safe.{IsSupported}
use Rattle.qq_raft_protocol.specs.World.{Lane, no_lane}
use Rattle.qq_raft_protocol.proofs.Fewer.{supported-fewer}
use Rattle.qq_raft_model.specs.Handing.{lane_in, plain_state}
use Rattle.qq_raft_model.specs.Refines.{number}
use Rattle.qq_raft_model.specs.Group.{Group as GroupState, Seat as SeatState, group_after}
use Rattle.qq_raft_model.specs.Promises.{AreDistinct, IsLeft, IsOpened, IsPlain, members_of}
use Rattle.qq_raft_model.proofs.Handing.{known-all}
use Rattle.qq_group.specs.Group.{IsReached, Represents}
use Rattle.qq_group.specs.Opening.{AreFound, AreLanes, IsAllDown, IsFoundBy, IsLaneBy, IsUnused, OpensOver, Start, log_lane, restarts_of}
use Rattle.qq_group.specs.Restarts.{IsFound}
use Rattle.qq_group.specs.declared.group.Group.{Group}
use Rattle.qq_group.proofs.Finding.{by-length, by-plain, by-stable, group_of, ops_by}

abbrev node : ℕ → NodeId
node n = record { 0 = n }

node-again : (o : Option NodeId) → option_map node (option_map number o) ≡ o
node-again None = refl
node-again (Some n) = refl

number-again : (o : Option ℕ) → option_map number (option_map node o) ≡ o
number-again None = refl
number-again (Some n) = refl

-- a log that is such a lane
abbrev log_from : Lane → LogState
log_from lane =
    record {
      op = lane.op;
      term = record { 0 = lane.term };
      vote = option_map node lane.vote;
      base = no_snapshot;
      shadow = None;
      entries = lane.log;
      room = 0;
    }

-- the seat of a member that is down, with ops that lead to the lane, all of which are noticed
abbrev seat_of : Lane → SeatState
seat_of lane = record { server = None; ops = ops_by lane.op (log_from lane); noticed = lane.op }

-- a lane without ops is a new one
abbrev MayBe : Lane → Type 0
MayBe lane = lane.op ≡ 0 → lane ≡ no_lane

unused : (lane : Lane) → MayBe lane → lane.op ≡ 0 → IsUnused (log_from lane)
unused lane may none_left =
    let is = may none_left in
    record {
      term = ap (λ (l : Lane). (log_from l).term) is;
      vote = ap (λ (l : Lane). (log_from l).vote) is;
      entries = ap (λ (l : Lane). l.log) is;
    }

seat-length : (lane : Lane) → length (seat_of lane).ops ≡ lane.op
seat-length lane = by-length lane.op (log_from lane)

seat-state : (lane : Lane) → MayBe lane
    → stable (seat_of lane).ops ≡ Some (plain_state lane.op (log_from lane).term (log_from lane).vote lane.log)
seat-state lane may =
    by-stable lane.op (log_from lane)
    ∙ ap (λ (state : Stable). Some state) (by-plain lane.op (log_from lane) (unused lane may))

-- the ops up to the last one are all
seat-all : (lane : Lane) (n : ℕ) → lane.op ≤ n → take n (seat_of lane).ops ≡ (seat_of lane).ops
seat-all lane n late = take_all n (seat_of lane).ops (omega (arith, late, seat-length lane))

seat-plain : (lane : Lane) (n : ℕ) → MayBe lane → lane.op ≤ n → n ≤ length (seat_of lane).ops
    → IsPlain n (take n (seat_of lane).ops)
seat-plain lane n may late within =
    let same : n ≡ lane.op = omega (arith, late, within, seat-length lane) in
    record {
      term = (log_from lane).term;
      vote = (log_from lane).vote;
      log = lane.log;
      is =
          ap stable (seat-all lane n late) ∙ seat-state lane may
          ∙ ap (λ (i : ℕ). Some (plain_state i (log_from lane).term (log_from lane).vote lane.log)) (sym same);
    }

some-is : {A : Type 0} (x y : A) → Some x ≡ Some y → x ≡ y
some-is x y e = cc

-- and they leave the lane alone
left-is : (g : GroupState) (k : ℕ) (lane l : Lane) → g.seat k ≡ seat_of lane → MayBe lane → IsLeft g k l → l ≡ lane
left-is g k lane l is may x =
    let late : (g.seat k).noticed ≤ x.upto = x.noticed in
    let noticed : (g.seat k).noticed ≡ lane.op = ap (λ (s : SeatState). s.noticed) is in
    let ops : take x.upto (g.seat k).ops ≡ (seat_of lane).ops =
    ap (λ (s : SeatState). take x.upto s.ops) is ∙ seat-all lane x.upto (omega (arith, late, noticed)) in
    let state : x.state ≡ plain_state lane.op (log_from lane).term (log_from lane).vote lane.log =
    some-is x.state (plain_state lane.op (log_from lane).term (log_from lane).vote lane.log)
    (sym x.is ∙ ap stable ops ∙ seat-state lane may) in
    x.lane_is ∙ ap lane_in state
    ∙ ap (λ (vote : Option ℕ). record {
      op = lane.op;
      term = lane.term;
      vote = vote;
      log = (lane_in (plain_state lane.op (log_from lane).term (log_from lane).vote lane.log)).log;
    }) (number-again lane.vote)
    ∙ ap (λ (log : List Entry). record { op = lane.op; term = lane.term; vote = lane.vote; log = log })
    (known-all lane.log)

-- ---- all members

abbrev over : QueueId → List NodeId → List Entry → (ℕ → Lane) → GroupState
over queue nodes audit lane = group_of queue nodes audit (λ k. seat_of (lane k))

over-opened : (queue : QueueId) (nodes : List NodeId) (audit whole : List Entry) (lane : ℕ → Lane)
    → ((k : ℕ) → MayBe (lane k)) → ((k : ℕ) → (In k (members_of nodes) → ⊥) → lane k ≡ no_lane)
    → IsSupported (members_of nodes) (λ q l. l ≡ lane q) whole → IsFront audit whole
    → IsOpened (over queue nodes audit lane) whole
over-opened queue nodes audit whole lane may others supported front = record {
  down = record {
    down = λ k. refl;
    bag = refl;
    noticed = λ k. let long = seat-length (lane k) in omega (arith, long);
    plain = λ k n late within. seat-plain (lane k) n (may k) late within;
    others = λ k away. ap (λ (l : Lane). (seat_of l).ops) (others k away);
  };
  supported =
      supported-fewer (λ q l left. left-is (over queue nodes audit lane) q (lane q) l refl (may q) left)
      (record { rest = []; is = sym (append-nil whole) }) supported;
  audit = front;
}

found-log : (l : LogState) (lane : Lane) → MayBe lane → log_lane l ≡ lane
    → stable (seat_of lane).ops ≡ Some (plain_state l.op l.term l.vote l.entries)
found-log l lane may is =
    seat-state lane may
    ∙ ap (λ (x : Lane). Some (plain_state x.op (log_from x).term (log_from x).vote x.log)) (sym is)
    ∙ ap (λ (vote : Option NodeId). Some (plain_state l.op l.term vote l.entries)) (node-again l.vote)

over-found : (queue : QueueId) (nodes : List NodeId) (audit : List Entry) (lane : ℕ → Lane) (k : ℕ) (l : LogState)
    → MayBe (lane k) → log_lane l ≡ lane k → IsFound (over queue nodes audit lane) k l
over-found queue nodes audit lane k l may is =
    let op : l.op ≡ (lane k).op = ap (λ (x : Lane). x.op) is in
    let long = seat-length (lane k) in
    record {
      noticed = omega (arith, op);
      handed = omega (arith, op, long);
      is = ap stable (seat-all (lane k) l.op (omega (arith, op))) ∙ found-log l (lane k) may is;
    }

found-by : {Q L : Type 0} (log : L → LogState) (queue : QueueId) (nodes : List NodeId) (audit : List Entry)
    (lane : ℕ → Lane) (k : ℕ) (o : Option (Q × L)) → MayBe (lane k) → IsLaneBy log (lane k) o
    → IsFoundBy log (over queue nodes audit lane) k o
found-by log queue nodes audit lane k None may is = tt
found-by log queue nodes audit lane k (Some s) may is = over-found queue nodes audit lane k (log s.1) may is

all-found : {Q L : Type 0} (log : L → LogState) (queue : QueueId) (nodes : List NodeId) (audit : List Entry)
    (lane : ℕ → Lane) (starts : List (Start Q L)) → ((k : ℕ) → MayBe (lane k)) → AreLanes log lane starts
    → AreFound log (over queue nodes audit lane) starts
all-found log queue nodes audit lane [] may are = tt
all-found log queue nodes audit lane (s ∷ starts) may are = (
  found-by log queue nodes audit lane s.0.0 s.1 (may s.0.0) are.0,
  all-found log queue nodes audit lane starts may are.1,
)

pub opened-reached : {Q L : Type 0} (log : L → LogState) (queue : QueueId) (nodes : List NodeId)
    (audit whole : List Entry) (starts : List (Start Q L)) (lane : ℕ → Lane) (group : Group Q L) → AreDistinct nodes
    → AreLanes log lane starts → ((k : ℕ) → MayBe (lane k))
    → ((k : ℕ) → (In k (members_of nodes) → ⊥) → lane k ≡ no_lane)
    → IsSupported (members_of nodes) (λ q l. l ≡ lane q) whole → IsFront audit whole
    → OpensOver log queue nodes audit starts group → (g : GroupState) × IsReached g × Represents log g group
opened-reached log queue nodes audit whole starts lane group distinct are may others supported front opens =
    let g = over queue nodes audit lane in
    let down : IsAllDown queue nodes audit g =
    record { queue_is = refl; nodes_is = refl; seats = λ k. refl; bag = refl; audit_is = refl } in (
      group_after g (restarts_of log starts),
      record {
        start = g;
        whole = whole;
        distinct = distinct;
        opened = over-opened queue nodes audit whole lane may others supported front;
        events = restarts_of log starts;
        is = refl;
      },
      opens g down (all-found log queue nodes audit lane starts may are),
    )
