-- A node that is down was recovered, but one of its members may not go on with what was found.
use Rattle.qq_cluster_model.specs.Outcome.{Outcome}
use Rattle.std.proofs.Common.{◌≡◌, ◌-◌, ℕ, suc, Bool, true, false, ◌||◌, List, [], ◌∷◌, ◌++◌, Option, Some, refl, sym, ap, ◌∙◌, subst, inl, inr, arith}
use Rattle.std.specs.Global.{Vec}
use Rattle.std.specs.Prelude.{Contains, IsTrue, Ok, nat_eq, slice_get}
use Rattle.std.proofs.lemmas.Bool.{eqb-true}
use Rattle.qq_base.proofs.Lists.{AllByRecursion-in, In as InList}
use Rattle.qq_base.specs.declared.ids.NodeId.{NodeId}
use Rattle.qq_base.specs.declared.ids.QueueId.{QueueId}
use Rattle.qq_base.specs.declared.memory.Memory.TheVariants.{Spent, Want}
use Rattle.qq_disk.specs.Disk.{now}
use Rattle.qq_disk.specs.Facts.{DiskFacts}
use Rattle.qq_log.specs.Stable.{Stable}
use Rattle.qq_log.specs.declared.lane.Lane.{Lane}
use Rattle.qq_lots.specs.Left.{IsBetween, ops_found, state_in}
use Rattle.qq_lots.specs.Lots.{ids_of}
use Rattle.qq_raft_model.specs.Group.{has_node}
use Rattle.qq_raft_protocol.specs.Facts.{In}
use Rattle.qq_recover.specs.Reading.{lanes_read, shown}
use Rattle.qq_wal_chain.specs.Lanes.{Lanes}
use Rattle.qq_cluster_model.specs.Cluster.{Cluster, Setup, members}
use Rattle.qq_cluster_model.specs.Rules.{IsRestart}
use Rattle.qq_cluster_laws.specs.Linked.{IsLinked, IsReached, lot_of, parts_at}
use Rattle.qq_cluster_laws.specs.Serves.{GivesUp, Seen, seen_of}
use Rattle.qq_cluster_laws.proofs.Links.{TakesUp as TakesUpAt, all-take_up}
use Rattle.qq_cluster_laws.proofs.Traces.{broken-none}
use Rattle.qq_queue.specs.Sessions.{standings}
use Rattle.qq_queue.specs.declared.cluster_queue.ClusterQueue.{ClusterQueue}
use Rattle.qq_recover.specs.declared.fault.RecoverFault.TheVariants as recover_faults
use Rattle.qq_node_log.specs.Log.{disk_in}
use Rattle.qq_node_log.specs.declared.node_log.NodeLog.TheVariants.{Open}
use Rattle.qq_cluster.specs.Logs.{NodeTurns}
use Rattle.qq_cluster.specs.Nodes.{IsNodeAt, IsNodeOf, IsQueueOf, Served, Stands, seen}
use Rattle.qq_opening.specs.Restarting.{IsLostAt, IsOfMemory, IsRefused, MayTakeUp, Refuses, this_node}
use Rattle.qq_opening.specs.Taking.{FindsLanes, IsLost, IsLostAmong, IsLostTo, IsTakeEachCaused, MayNotStep, Recovers, StaysDown, Steps, TakesUpOne, handed_of, index_of, lane_state, pair_index, pairs}
use Rattle.qq_opening.specs.declared.taking.Handed.{Handed}
use Rattle.qq_cluster.specs.declared.node.Node.{Node}
use Rattle.qq_cluster.specs.declared.nodes.Nodes.{Nodes as Held}
use Rattle.qq_opening.specs.declared.restarting.RestartFault.{RestartFault}
use Rattle.qq_opening.specs.declared.restarting.RestartFault.TheVariants as faults_of
use Rattle.qq_opening.proofs.Changing.{AreApart, all-others}
use Rattle.qq_opening.proofs.FoundEach.{IsAtPlace, at-place, known-seat, own-apart, own-changes, queue-of, to-lot}
use Rattle.qq_opening.proofs.FoundLanes.{HasLane, HasNone, come-to_none, lane-none, lane-op, lane-told, pair-has}
use Rattle.qq_opening.proofs.OwnDisk.{disk-gives_up, seen-before}
use Rattle.qq_cluster.proofs.Logged.{logs-with}
use Rattle.qq_cluster.proofs.OwnStands.{node-was, set-here}
use Rattle.qq_cluster.proofs.Stands.{same-logs, stands-logs}
use Rattle.qq_opening.proofs.Restarted.{found-lanes, read-then, restarted, same-disk, settles, some-same}
use Rattle.qq_opening.proofs.Unrecovered.{not-recovered, not-restarted, restarts-none}

-- ---- lists

in-left : {A : Type 0} (x : A) (xs ys : List A) → In x xs → In x (xs ++ ys)
in-left x [] ys here = absurd here
in-left x (y ∷ xs) ys (inl same) = inl same
in-left x (y ∷ xs) ys (inr later) = inr (in-left x xs ys later)

pub in-middle : {A : Type 0} (x : A) (xs ys : List A) → In x (xs ++ x ∷ ys)
in-middle x [] ys = inl refl
in-middle x (y ∷ xs) ys = inr (in-middle x xs ys)

-- none of those before an item has its index
apart-front : {A : Type 0} (at : A → ℕ) (xs : List A) (y : A) (ys : List A) → AreApart at (xs ++ y ∷ ys)
    → AreApart at xs × ((x : A) → In x xs → at x ≡ at y → ⊥)
apart-front at [] y ys apart = (tt, λ x here same. here)
apart-front at (z ∷ xs) y ys apart =
    let rest = apart-front at xs y ys apart.1 in (
      (λ x here same. apart.0 x (in-left x xs (y ∷ ys) here) same, rest.0),
      λ x here same. elim here [
        | inl first ↦ apart.0 y (in-middle y xs ys) (sym same ∙ ap at first)
        | inr later ↦ rest.1 x later same
      ],
    )

pub contains-in : (x : ℕ) (xs : List ℕ) → In x xs → Contains xs x
contains-in x [] here = absurd here
contains-in x (y ∷ ys) (inl same) = (0, omega arith, sym same)
contains-in x (y ∷ ys) (inr later) =
    let rest = contains-in x ys later in
    let lt = rest.1 in
    (suc rest.0, omega (arith, lt), rest.2)

pub contains-node : (node : NodeId) (nodes : List NodeId) → has_node node.0 nodes ≡ true → Contains nodes node
contains-node node [] has = absurd (let e : false ≡ true = has in cc)
contains-node node (n ∷ nodes) has = by (nat_eq n.0 node.0) refl has (contains-node node nodes)
  where
    by : (b : Bool) → nat_eq n.0 node.0 ≡ b → (b || has_node node.0 nodes) ≡ true
        → (has_node node.0 nodes ≡ true → Contains nodes node) → Contains (n ∷ nodes) node
    by true is has rest =
        let same : n.0 ≡ node.0 = eqb-true n.0 node.0 is in
        (0, omega arith, λ i. record { 0 = same i })
    by false is has rest =
        let later = rest has in
        let lt = later.1 in
        (suc later.0, omega (arith, lt), later.2)

-- what a node has lost that isn't opened now
lost-to : (empty : Bool) (k : ℕ) (lane : Option Lane) (d : ClusterQueue) (noticed found : ℕ)
    → IsLost (handed_of false empty) k lane d noticed found
    → IsLostTo k (handed_of false empty) lane d noticed found
lost-to true k lane d noticed found lost = lost
lost-to false k lane d noticed found lost = lost

module _ {D : Type 0} {facts : DiskFacts D} (node : NodeId) (old : Held D) (at : IsNodeAt node old)
    (finds : FindsLanes facts node old) where
  abbrev k : ℕ
  k = node.0

  abbrev mid : Held D
  mid = record old { nodes = finds.nodes }

  abbrev found : List (Option Lane)
  found = finds.lanes

  abbrev turn : NodeTurns (λ (x y : Node D). Recovers facts old.log_bytes x y found) (node.0 - 1)
      old.nodes.items finds.nodes.items
  turn = finds.turn

  abbrev rec : Recovers facts old.log_bytes turn.old turn.new found
  rec = turn.turns

  abbrev handed : Handed
  handed = handed_of false turn.old.empty

  -- ---- what is given up

  gives-up : (new : Held D) → new.nodes ≡ finds.nodes → (setup : Setup) (c : Cluster) → IsReached setup c
      → Stands facts setup old c → GivesUp setup c (seen facts old) (seen facts new)
  gives-up new same setup c r st =
      disk-gives_up setup c k [] old new turn.old turn.new rec.own (Open rec.found.wal) tt at.0 turn.here
      (ap (λ (v : Vec (Node D)). v.items) same ∙ turn.is) rec.was (ap (λ (y : Node D). y.log) rec.is)
      (same-disk node old at finds setup c st)
      (λ told linked. broken-none setup c k
      (facts.past (disk_in rec.own)) (facts.past rec.found.wal.disk) linked.promised
      (settles node old at finds setup c st told linked).stays)

  module _ (setup : Setup) (c : Cluster) (r : IsReached setup c) (st : Stands facts setup old c)
      (down : c.up k ≡ false) where
    was : IsNodeOf facts setup c k turn.old
    was = node-was setup c old k turn.old st at.0 turn.here

    seen-is : seen facts old k ≡ seen_of facts (disk_in rec.own)
    seen-is =
        seen-before setup c k [] old mid turn.old turn.new rec.own (Open rec.found.wal) tt at.0 turn.here turn.is
        rec.was
        (ap (λ (y : Node D). y.log) rec.is) (same-disk node old at finds setup c st)

    abbrev own_pairs : List (QueueId × Option Lane)
    own_pairs = pairs turn.old.queues.items found

    -- what is said of the log's queues
    module _ (queue : QueueId) (noticed many : ℕ)
        (lost : IsLostAmong k handed own_pairs old.queues.items queue noticed many) where
      abbrev lot_pairs : List (QueueId × Option Lane)
      lot_pairs = pairs (ids_of (lot_of setup k)) found

      are-split : lot_pairs ≡ lost.before ++ (queue, lost.lane) ∷ lost.behind
      are-split = ap (λ (ids : List QueueId). pairs ids found) (sym was.queues_are) ∙ lost.are

      lost-own : IsLostTo k handed lost.lane lost.own noticed many
      lost-own = lost-to turn.old.empty k lost.lane lost.own noticed many lost.lost

      has-lane : HasLane (ids_of (lot_of setup k)) rec.has.lanes (queue, lost.lane)
      has-lane =
          pair-has (queue, lost.lane) (ids_of (lot_of setup k)) rec.has.lanes found
          (found-lanes node old at finds setup c st)
          (subst (In (queue, lost.lane)) (sym are-split) (in-middle (queue, lost.lane) lost.before lost.behind))

      own-place : (place : ℕ) × IsAtPlace setup k queue place
      own-place = at-place setup c k old st queue has-lane.among

      -- it stands at its number
      own-at : IsAtPlace setup k queue queue.0
      own-at = subst (IsAtPlace setup k queue) (sym own-place.1.number) own-place.1

      -- none before it has changed it
      own-here : slice_get old.queues.items (index_of queue) ≡ Some lost.own
      own-here =
          let apart = apart-front pair_index lost.before (queue, lost.lane) lost.behind
          (subst (AreApart pair_index) are-split
          (own-apart setup c k old st rec.has.lanes found
          (found-lanes node old at finds setup c st))) in
          all-others pair_index (TakesUpOne k handed) lost.before old.queues.items lost.mids
          (index_of queue)
          lost.own apart.0 lost.changed apart.1 lost.here

      own-queue : IsQueueOf setup (standings old.sessions) c queue.0 lost.own
      own-queue = queue-of setup c k old st queue queue.0 lost.own own-at own-here

      abbrev state : Stable
      state = state_in rec.has.lanes queue

      -- its member may not go on with what was found
      refused : MayTakeUp k (c.queue queue.0) state → ⊥
      refused may =
          let none : HasNone state =
          come-to_none (setup.args queue.0).queue ((c.queue queue.0).group.seat k).ops state.op state
          (own-changes setup c k old st r queue.0) may.1 in
          let told : lane_state lost.lane ≡ state = lane-told queue rec.has.lanes lost.lane has-lane.is none in
          lost-own.refused (standings old.sessions) (c.queue queue.0) own-queue.stands
          (known-seat setup c k old st turn.old r was queue.0 lost.lane)
          (lane-none queue rec.has.lanes lost.lane has-lane.is none)
          (subst (MayTakeUp k (c.queue queue.0)) (sym told) may)

      lost-at : IsLostAt facts setup old c node queue noticed many
      lost-at = record {
        among = contains-in queue.0 setup.places own-at.here;
        member = contains-node node (members setup queue.0) own-at.member;
        state = state;
        read = subst (λ (s : Seen). IsTrue s.tells → (lanes : Lanes)
            × (lanes_read (ids_of (lot_of setup k)) (shown (now s.past)) ≡ Ok lanes) × (state ≡ state_in lanes queue))
            (sym seen-is)
            (λ told. (
              rec.has.lanes,
              read-then node old at finds setup c st told,
              refl,
            ));
        refused = refused;
        noticed_is = lost-own.noticed_is (standings old.sessions) (c.queue queue.0) own-queue.stands
            (known-seat setup c k old st turn.old r was queue.0 lost.lane);
        found_is = lost-own.found_is ∙ lane-op queue rec.has.lanes lost.lane has-lane.is;
      }

      -- and it may with what a disk that was linked keeps
      never-lost : IsTrue (seen facts old k).tells → IsLinked setup c k (now (seen facts old k).past) → ⊥
      never-lost =
          subst (λ (s : Seen). IsTrue s.tells → IsLinked setup c k (now s.past) → ⊥) (sym seen-is)
          (λ told linked. (let s = settles node old at finds setup c st told linked in
          let here : InList queue.0 (lot_of setup k).places =
          to-lot setup c k old st queue.0 own-at.here own-at.member in
          let takes : TakesUpAt k (ops_found (lot_of setup k) rec.has.lanes queue.0) (c.queue queue.0) =
          AllByRecursion-in (λ (p : ℕ). TakesUpAt k (ops_found (lot_of setup k) rec.has.lanes p) (c.queue p)) queue.0
          (lot_of setup k).places
          (all-take_up setup c k st.set_up.groups r rec.has.lanes down was.members s.between) here in
          let between : IsBetween (parts_at c k queue.0) (state_in rec.has.lanes (setup.args queue.0).queue) =
          AllByRecursion-in (λ (p : ℕ). IsBetween (parts_at c k p) (state_in rec.has.lanes (setup.args p).queue))
          queue.0
          (lot_of setup k).places s.between here in
          refused (subst (λ (id : QueueId). MayTakeUp k (c.queue queue.0) (state_in rec.has.lanes id))
          (sym own-at.id_is) (takes.may, between.is))))

    abbrev Caused : RestartFault → Type 0
    Caused fault = IsTakeEachCaused k handed own_pairs old.queues.items fault

    is-refused : (before : Outcome) (fault : RestartFault) → Caused fault
        → IsRefused facts setup c (k ∷ []) old before fault
    is-refused before (faults_of.Damaged other file place) cause = absurd cause
    is-refused before (faults_of.Version other file byte) cause = absurd cause
    is-refused before (faults_of.Lost other queue noticed many) cause =
        let same : node ≡ other = λ i. record { 0 = sym cause.0 i } in
        subst (λ (n : NodeId).
        IsRefused facts setup c (k ∷ []) old before (faults_of.Lost n queue noticed many)) same (
          restarts-none facts setup c k old before st down,
          lost-at queue noticed many cause.1,
        )
    is-refused before (faults_of.Memory memory) cause = tt

    of-memory : (fault : RestartFault) → Caused fault → IsTrue (seen facts old k).tells
        → IsLinked setup c k (now (seen facts old k).past) → IsOfMemory fault
    of-memory (faults_of.Damaged other file place) cause told linked = cause
    of-memory (faults_of.Version other file byte) cause told linked = cause
    of-memory (faults_of.Lost other queue noticed many) cause told linked =
        never-lost queue noticed many cause.1 told linked
    of-memory (faults_of.Memory memory) cause told linked = tt

  -- ---- as a call leaves it

  cause-is : (fault : RestartFault) → StaysDown node false found mid fault
      → IsTakeEachCaused k handed (pairs turn.old.queues.items found) old.queues.items fault
  cause-is fault stays =
      let there : slice_get finds.nodes.items (k - 1) ≡ Some turn.new =
      ap (λ (l : List (Node D)). slice_get l (k - 1)) turn.is
      ∙ set-here k old.nodes.items turn.old turn.new turn.here in
      subst (λ (y : Node D). IsTakeEachCaused k (handed_of false y.empty) (pairs y.queues.items found) old.queues.items
      fault)
      (some-same stays.own turn.new (sym stays.here ∙ there) ∙ rec.is) stays.cause

  pub lost-queue : (new : Held D) (before : Outcome) (fault : RestartFault)
      → ((setup : Setup) (c : Cluster) → Stands facts setup old c → c.up node.0 ≡ false)
      → new.nodes ≡ finds.nodes → StaysDown node false found mid fault
      → Refuses facts (this_node k) (λ setup. IsRestart setup k) old new before fault
  lost-queue new before fault down same stays = record {
    gives_up = gives-up new same;
    logs = λ setup c r st. same-logs setup finds.nodes new.nodes same
        (logs-with setup old.nodes.items finds.nodes.items (k - 1) turn.new (Open rec.found.wal) turn.is
        (ap (λ (y : Node D). y.log) rec.is) (stands-logs setup old c st));
    refused = λ setup c r st. is-refused setup c r st (down setup c st) before fault (cause-is fault stays);
    spent = λ number is. absurd
        (let want : Spent number ≡ Want = subst (λ (f : RestartFault). IsTakeEachCaused k handed
        (pairs turn.old.queues.items found) old.queues.items f) is (cause-is fault stays) in cc);
    never = λ setup c r st linked.
        of-memory setup c r st (down setup c st) fault (cause-is fault stays) linked.0.0 linked.0.1;
  }

-- why a node isn't restarted that was opened before
pub step-refuses : {D : Type 0} {facts : DiskFacts D} (node : NodeId) (old new : Held D) (before : Outcome)
    (fault : RestartFault) → IsNodeAt node old
    → ((setup : Setup) (c : Cluster) → Stands facts setup old c → c.up node.0 ≡ false)
    → MayNotStep facts node false old new fault
    → Refuses facts (this_node node.0) (λ setup. IsRestart setup node.0) old new before fault
step-refuses node old new before fault at down (inl back) =
    lost-queue node old at back.found new before fault down back.nodes_are back.stays
step-refuses node old new before fault at down (inr none) =
    not-restarted node old new at none.0 none.1 before fault down none.2

-- or it is, or its disk fails
pub step-serves : {D : Type 0} {facts : DiskFacts D} (node : NodeId) (old new : Held D) (before later : Outcome)
    → IsNodeAt node old
    → ((setup : Setup) (c : Cluster) → Stands facts setup old c → c.up node.0 ≡ false)
    → Steps facts node false old new before later → Served facts (λ setup. IsRestart setup node.0) old new before later
step-serves {facts = facts} node old new before later at down (inl up) =
    subst (Served facts (λ setup. IsRestart setup node.0) old new before) (sym up.1)
    (restarted node old new before at down up.0)
step-serves node old new before later at down (inr none) =
    not-recovered node old new recover_faults.Disk at none.0 before down refl later none.1
