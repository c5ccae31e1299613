-- What waits is each queue's own, and goes on behind what its log was given.
use Rattle.std.proofs.Common.{◌≡◌, ◌≢◌, ◌≤◌, ℕ, Bool, true, List, [], ◌∷◌, ◌++◌, Option, Some, None, length, take, refl, sym, ap, ◌∙◌, subst, inl, inr, arith, append_assoc, append-nil}
use Rattle.std.specs.Prelude.{All, IsSome, filter, is_some, nat_eq, replicate}
use Rattle.std.specs.List.{AllByRecursion, flat_map}
use Rattle.std.proofs.lemmas.Bool.{eq-eqb, ne_eqb, cond-true, cond-false, cond_both, or_left, or_right}
use Rattle.std.proofs.lemmas.List.{length-take-le, take_all}
use Rattle.std.proofs.lemmas.List.Elements.{All-from_recursion, filter-append}
use Rattle.qq_base.specs.Fronts.{put}
use Rattle.qq_base.specs.declared.ids.QueueId.{QueueId}
use Rattle.qq_base.proofs.Lists.{AllByRecursion-append, AllByRecursion-filter, AllByRecursion-weaker, In as InList, In-map}
use Rattle.qq_base.proofs.Puts.{put-same}
use Rattle.qq_entry.specs.declared.command.Entry.{Entry}
use Rattle.qq_log.specs.Carries.{is_listed}
use Rattle.qq_log.specs.declared.op.Op.{Op}
use Rattle.qq_log.specs.declared.op.Op.TheVariants.{Change, SnapshotMade, SegmentMade}
use Rattle.qq_log.specs.Op.{queue}
use Rattle.qq_log.specs.Stable.{Stable, stable}
use Rattle.qq_lots.specs.Lots.{give, give_batch, ids_of, ops_at}
use Rattle.qq_lots.proofs.Counts.{state-count}
use Rattle.qq_lots.proofs.Each.{all-both}
use Rattle.qq_raft_model.specs.Group.{Event as Move, Group, Seat, group_after, happens as moved, has_node, take_by, take_op}
use Rattle.qq_raft_model.specs.Group.Event.{Take}
use Rattle.qq_raft_model.specs.Promises.{AreDistinct, IsLeft, IsOpened}
use Rattle.qq_raft_model.specs.State.{Server}
use Rattle.qq_raft_protocol.specs.World.{Lane}
use Rattle.qq_wal_chain.specs.Lanes.{of_queue}
use Rattle.qq_cluster_model.specs.Cluster.{Cluster, NodeWrites, Setup, cluster_happens, members}
use Rattle.qq_cluster_model.specs.ClusterLaws.{HasGroups}
use Rattle.qq_cluster_model.specs.Laws.{CountsRise}
use Rattle.qq_cluster_model.specs.Queue.{Queue, Writes, happens, waiting, waiting_by}
use Rattle.qq_cluster_laws.specs.Linked.{IsReached, lot_of, part_at, parts_at}
use Rattle.qq_cluster_laws.specs.Waiting.{AllWait, AreApart, HasOwnGroups, IsChangeOf, all_waiting, ops_by, ops_waiting, ops_with_waiting}
use Rattle.qq_cluster_laws.proofs.Own.{IsOwnGroup, own-moves}
use Rattle.qq_cluster_laws.proofs.Reached.{counts-at, group-made, made, reached-after}

-- ---- what a write gives

-- each take hands the next op to the log
taken : (k : ℕ) (all : List Op) (s : Server) (g : Group) → (g.seat k).server ≡ Some s → s.ops ≡ all
    → ((group_after g (replicate (length all) (Take k))).seat k).ops ≡ (g.seat k).ops ++ all
taken k [] s g up is = sym (append-nil (g.seat k).ops)
taken k (op ∷ all) s g up is =
    let seat : Seat = record {
      server = Some (record s { ops = all });
      ops = (g.seat k).ops ++ op ∷ [];
      noticed = (g.seat k).noticed;
    } in
    let next : Group = record g { seat = put k seat g.seat } in
    let first : moved (Take k) g ≡ next =
    ap (λ (o : Option Server). take_op k o g) up ∙ ap (λ (l : List Op). take_by k s l g) is in
    let there : next.seat k ≡ seat = put-same k seat g.seat in
    ap (λ (h : Group). ((group_after h (replicate (length all) (Take k))).seat k).ops) first
    ∙ taken k all (record s { ops = all }) next (ap (λ (x : Seat). x.server) there) refl
    ∙ ap (λ (x : Seat). x.ops ++ all) there ∙ append_assoc (g.seat k).ops (op ∷ []) all

all-taken : (k : ℕ) (g : Group)
    → ((group_after g (replicate (waiting k g) (Take k))).seat k).ops ≡ (g.seat k).ops ++ ops_by (g.seat k).server
all-taken k g = by (g.seat k).server refl
  where
    by : (o : Option Server) → (g.seat k).server ≡ o
        → ((group_after g (replicate (waiting_by o) (Take k))).seat k).ops ≡ (g.seat k).ops ++ ops_by o
    by None is = sym (append-nil (g.seat k).ops)
    by (Some s) is = taken k s.ops s g is refl

pub gives-waiting : (k : ℕ) (q : Queue) → part_at k (happens q (Writes k)) ≡ give (ops_waiting k q) (part_at k q)
gives-waiting k q = λ i. record { ops = all-taken k q.group i; synced = q.synced k }

-- ---- whose ops they are

own-group : (setup : Setup) (c : Cluster) → HasGroups setup → HasOwnGroups setup → IsReached setup c → (place : ℕ)
    → IsOwnGroup (setup.args place).queue (c.queue place).group
own-group setup c groups own r place =
    subst (IsOwnGroup (setup.args place).queue) (sym (group-made setup c r place))
    (own-moves (setup.args place).queue (made setup c r place) (setup.group place) (record {
      queue = (own place).queue;
      seats = λ k. record {
        ops = (own place).ops k;
        server = λ s up. absurd (let none : None ≡ Some s = sym ((groups place).opened.down.down k) ∙ up in cc);
      };
    }))

waiting-own : (setup : Setup) (c : Cluster) (k : ℕ) → HasGroups setup → HasOwnGroups setup → IsReached setup c
    → (place : ℕ) → AllByRecursion (IsChangeOf (setup.args place).queue) (ops_waiting k (c.queue place))
waiting-own setup c k groups own r place =
    by ((c.queue place).group.seat k).server ((own-group setup c groups own r place).seats k).server
  where
    by : (o : Option Server) → ((s : Server) → o ≡ Some s → (s.queue ≡ (setup.args place).queue)
        × AllByRecursion (IsChangeOf (setup.args place).queue) s.ops)
        → AllByRecursion (IsChangeOf (setup.args place).queue) (ops_by o)
    by None so = tt
    by (Some s) so = (so s refl).1

pub owns-ops : (setup : Setup) (c : Cluster) (place k : ℕ) → HasGroups setup → HasOwnGroups setup → IsReached setup c
    → AllByRecursion (IsChangeOf (setup.args place).queue) (ops_with_waiting k (c.queue place))
owns-ops setup c place k groups own r =
    AllByRecursion-append (IsChangeOf (setup.args place).queue) ((c.queue place).group.seat k).ops
    (ops_waiting k (c.queue place)) ((own-group setup c groups own r place).seats k).ops
    (waiting-own setup c k groups own r place)

-- ---- one queue's part of what waits

is-own : (id : QueueId) (op : Op) → IsChangeOf id op → queue op ≡ id
is-own id (Change own op term vote keep entries) is = is
is-own id (SnapshotMade own op head file) is = absurd is
is-own id (SegmentMade own op file first last) is = absurd is

-- a queue's own ops are all its part of them
own-part : (id : QueueId) (ops : List Op) → AllByRecursion (IsChangeOf id) ops → of_queue id.0 ops ≡ ops
own-part id [] each = refl
own-part id (op ∷ ops) each =
    cond-true (nat_eq (queue op).0 id.0) (op ∷ of_queue id.0 ops) (of_queue id.0 ops)
    (eq-eqb (queue op).0 id.0 (ap (λ (q : QueueId). q.0) (is-own id op each.0)))
    ∙ ap (λ (l : List Op). op ∷ l) (own-part id ops each.1)

-- another queue's part of them is none
other-part : (id other : QueueId) (ops : List Op) → id.0 ≢ other.0 → AllByRecursion (IsChangeOf id) ops
    → of_queue other.0 ops ≡ []
other-part id other [] apart each = refl
other-part id other (op ∷ ops) apart each =
    cond-false (nat_eq (queue op).0 other.0) (op ∷ of_queue other.0 ops) (of_queue other.0 ops)
    (ne_eqb (queue op).0 other.0 (λ same. apart (sym (ap (λ (q : QueueId). q.0) (is-own id op each.0)) ∙ same)))
    ∙ other-part id other ops apart each.1

module _ (setup : Setup) (own : ℕ → List Op)
    (mine : (place : ℕ) → AllByRecursion (IsChangeOf (setup.args place).queue) (own place)) where
  abbrev part : ℕ → List Op → List Op
  part place ops = of_queue (setup.args place).queue.0 ops

  abbrev joined : List ℕ → List Op
  joined places = flat_map own places

  first-part : (first place : ℕ) (places : List ℕ)
      → part place (joined (first ∷ places)) ≡ part place (own first) ++ part place (joined places)
  first-part first place places =
      filter-append (λ (op : Op). nat_eq (queue op).0 (setup.args place).queue.0) (own first) (joined places)

  -- what waits of queues that are all others
  none-of : (place : ℕ) (places : List ℕ)
      → AllByRecursion (λ (other : ℕ). (setup.args other).queue.0 ≢ (setup.args place).queue.0) places
      → part place (joined places) ≡ []
  none-of place [] apart = refl
  none-of place (other ∷ places) apart =
      first-part other place places
      ∙ ap (λ (l : List Op). l ++ part place (joined places))
      (other-part (setup.args other).queue (setup.args place).queue (own other) apart.0 (mine other))
      ∙ none-of place places apart.1

  -- behind those of a queue that is none of them
  behind-other : (first place : ℕ) (places : List ℕ) → (setup.args place).queue.0 ≢ (setup.args first).queue.0
      → part place (joined places) ≡ own place → part place (joined (first ∷ places)) ≡ own place
  behind-other first place places apart is =
      first-part first place places
      ∙ ap (λ (l : List Op). l ++ part place (joined places))
      (other-part (setup.args first).queue (setup.args place).queue (own first) (λ same. apart (sym same)) (mine first))
      ∙ is

  at-first : (place : ℕ) (places : List ℕ)
      → AllByRecursion (λ (other : ℕ). (setup.args other).queue.0 ≢ (setup.args place).queue.0) places
      → part place (joined (place ∷ places)) ≡ own place
  at-first place places apart =
      first-part place place places
      ∙ ap (λ (l : List Op). l ++ part place (joined places)) (own-part (setup.args place).queue (own place) (mine place))
      ∙ ap (λ (l : List Op). own place ++ l) (none-of place places apart) ∙ append-nil (own place)

  pub each-waits : (places : List ℕ) → AreApart setup places
      → AllByRecursion (λ (place : ℕ). part place (joined places) ≡ own place) places
  each-waits [] apart = tt
  each-waits (first ∷ places) apart = (
    at-first first places apart.0,
    all-both (λ (place : ℕ). (setup.args place).queue.0 ≢ (setup.args first).queue.0)
        (λ (place : ℕ). part place (joined places) ≡ own place)
        (λ (place : ℕ). part place (joined (first ∷ places)) ≡ own place)
        (λ place other is. behind-other first place places other is) places apart.0 (each-waits places apart.1),
  )

apart-filter : (setup : Setup) (passes : ℕ → Bool) (places : List ℕ) → AreApart setup places
    → AreApart setup (filter passes places)
apart-filter setup passes [] apart = tt
apart-filter setup passes (place ∷ places) apart =
    cond_both (passes place) (place ∷ filter passes places) (filter passes places) (AreApart setup)
    (λ _. (
      AllByRecursion-filter (λ (other : ℕ). (setup.args other).queue.0 ≢ (setup.args place).queue.0) passes places
          apart.0,
      apart-filter setup passes places apart.1,
    )) (λ _. apart-filter setup passes places apart.1)

pub all-wait : (setup : Setup) (c : Cluster) (k : ℕ) → HasGroups setup → HasOwnGroups setup → IsReached setup c
    → AreApart setup setup.places → AllWait setup c k (all_waiting setup c k)
all-wait setup c k groups own r apart =
    each-waits setup (λ (place : ℕ). ops_waiting k (c.queue place)) (waiting-own setup c k groups own r)
    (lot_of setup k).places
    (apart-filter setup (λ (place : ℕ). has_node k (members setup place)) setup.places apart)

-- ---- what ops come to

-- what the law of groups says
abbrev pub LeavesLanes : Type 0
LeavesLanes =
    (g : Group) (whole : List Entry) (events : List Move) (k upto : ℕ) → AreDistinct g.nodes → IsOpened g whole
    → ((group_after g events).seat k).noticed ≤ upto → upto ≤ length ((group_after g events).seat k).ops
    → (lane : Lane) × (lane.op ≡ upto) × IsLeft (group_after g events) k lane

abbrev Comes : Option Stable → Type 0
Comes o = (state : Stable) × (o ≡ Some state)

-- the whole lane of a log is what all its ops come to
whole-stable : (g : Group) (k : ℕ) → ((lane : Lane) × (lane.op ≡ length (g.seat k).ops) × IsLeft g k lane)
    → Comes (stable (g.seat k).ops)
whole-stable g k (lane, op, left) =
    let ops : List Op = (g.seat k).ops in
    let count : left.state.op ≡ length (take left.upto ops) = state-count (take left.upto ops) left.state left.is in
    let long : length (take left.upto ops) ≡ left.upto = length-take-le left.upto ops left.handed in
    let same : lane.op ≡ left.state.op = ap (λ (l : Lane). l.op) left.lane_is in
    let all : left.upto ≡ length ops = omega (arith, count, long, same, op) in (
      left.state,
      sym (ap (λ (n : ℕ). stable (take n ops)) all ∙ ap stable (take_all (length ops) ops (omega arith))) ∙ left.is,
    )

module _ (leaves : LeavesLanes) (setup : Setup) (groups : HasGroups setup) where
  -- all that a log was given comes to a state
  handed-stable : (c : Cluster) → IsReached setup c → (place k : ℕ)
      → Comes (stable ((c.queue place).group.seat k).ops)
  handed-stable c r place k =
      let g : Group = group_after (setup.group place) (made setup c r place) in
      let rise : CountsRise (c.queue place) k = counts-at setup c r place groups k in
      let low : (g.seat k).noticed ≤ length (g.seat k).ops =
      subst (λ (h : Group). (h.seat k).noticed ≤ length (h.seat k).ops) (group-made setup c r place)
      (omega (arith, rise.noticed, rise.synced)) in
      subst (λ (h : Group). Comes (stable (h.seat k).ops)) (sym (group-made setup c r place))
      (whole-stable g k
      (leaves (setup.group place) (groups place).whole (made setup c r place) k (length (g.seat k).ops)
      (groups place).distinct (groups place).opened low (omega arith)))

  -- and what waits goes on behind it
  pub waiting-stable : (c : Cluster) → IsReached setup c → (place k : ℕ)
      → Comes (stable (ops_with_waiting k (c.queue place)))
  waiting-stable c r place k =
      subst (λ (ops : List Op). Comes (stable ops)) (all-taken k (c.queue place).group)
      (handed-stable (cluster_happens c (NodeWrites k)) (reached-after setup c (NodeWrites k ∷ []) r) place k)

  -- so a log can go on with what is given to it
  pub given-sound : (c : Cluster) (k : ℕ) (ops : List Op) → IsReached setup c → AllWait setup c k ops
      → AllByRecursion (λ (place : ℕ). IsSome (stable (give_batch (lot_of setup k) ops (parts_at c k) place).ops))
      (lot_of setup k).places
  given-sound c k ops r waits =
      AllByRecursion-weaker (λ (place : ℕ). ops_at (lot_of setup k) place ops ≡ ops_waiting k (c.queue place))
      (λ (place : ℕ). IsSome (stable (give_batch (lot_of setup k) ops (parts_at c k) place).ops))
      (λ place is. (let whole : Comes (stable (ops_with_waiting k (c.queue place))) = waiting-stable c r place k in
      ap (λ (own : List Op). is_some (stable (((c.queue place).group.seat k).ops ++ own))) is ∙ ap is_some whole.1))
      (lot_of setup k).places waits

-- ---- each op is of a queue of the log

listed-in : (id : QueueId) (ids : List QueueId) (op : Op) → InList id ids → queue op ≡ id
    → is_listed ids (queue op) ≡ true
listed-in id [] op here is = absurd here
listed-in id (other ∷ ids) op (inl same) is =
    or_left (nat_eq other.0 (queue op).0) (is_listed ids (queue op))
    (eq-eqb other.0 (queue op).0 (ap (λ (q : QueueId). q.0) (sym same ∙ sym is)))
listed-in id (other ∷ ids) op (inr later) is =
    or_right (nat_eq other.0 (queue op).0) (is_listed ids (queue op)) (listed-in id ids op later is)

each-listed : (setup : Setup) (c : Cluster) (k : ℕ) (ids : List QueueId) → HasGroups setup → HasOwnGroups setup
    → IsReached setup c → (places : List ℕ) → ((place : ℕ) → InList place places → InList (setup.args place).queue ids)
    → AllByRecursion (λ (op : Op). is_listed ids (queue op) ≡ true)
    (flat_map (λ (place : ℕ). ops_waiting k (c.queue place)) places)
each-listed setup c k ids groups own r [] within = tt
each-listed setup c k ids groups own r (place ∷ places) within =
    AllByRecursion-append (λ (op : Op). is_listed ids (queue op) ≡ true) (ops_waiting k (c.queue place))
    (flat_map (λ (p : ℕ). ops_waiting k (c.queue p)) places)
    (AllByRecursion-weaker (IsChangeOf (setup.args place).queue) (λ (op : Op). is_listed ids (queue op) ≡ true)
    (λ op change. listed-in (setup.args place).queue ids op (within place (inl refl))
    (is-own (setup.args place).queue op change)) (ops_waiting k (c.queue place))
    (waiting-own setup c k groups own r place))
    (each-listed setup c k ids groups own r places (λ p here. within p (inr here)))

pub all-listed : (setup : Setup) (c : Cluster) (k : ℕ) → HasGroups setup → HasOwnGroups setup → IsReached setup c
    → All (λ (op : Op). is_listed (ids_of (lot_of setup k)) (queue op) ≡ true) (all_waiting setup c k)
all-listed setup c k groups own r =
    All-from_recursion (λ (op : Op). is_listed (ids_of (lot_of setup k)) (queue op) ≡ true) (all_waiting setup c k)
    (each-listed setup c k (ids_of (lot_of setup k)) groups own r (lot_of setup k).places
    (λ place here. In-map (lot_of setup k).id place (lot_of setup k).places here))
