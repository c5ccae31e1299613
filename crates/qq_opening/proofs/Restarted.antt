-- A node that was down is recovered, and its members go on with what was found.
use Rattle.qq_cluster_model.specs.Outcome.{Outcome}
use Rattle.qq_cluster.proofs.Outcomes.{same-outcome}
use Rattle.std.proofs.Common.{◌≡◌, ◌-◌, ℕ, Bool, true, false, List, [], ◌∷◌, Option, Some, length, refl, sym, ap, ◌∙◌, subst}
use Rattle.std.specs.Prelude.{IsTrue, Ok, slice_get, slice_set}
use Rattle.std.proofs.lemmas.Bool.{false≢true}
use Rattle.qq_base.specs.declared.ids.NodeId.{NodeId}
use Rattle.qq_base.specs.declared.ids.QueueId.{QueueId}
use Rattle.qq_disk.specs.Disk.{now}
use Rattle.qq_disk.specs.Facts.{DiskFacts}
use Rattle.qq_log.specs.declared.lane.Lane.{Lane}
use Rattle.qq_lots.specs.Left.{ops_found}
use Rattle.qq_lots.specs.Lots.{ids_of}
use Rattle.qq_recover.specs.Reading.{lanes_read, shown}
use Rattle.qq_raft_protocol.specs.Facts.{In}
use Rattle.qq_cluster_model.specs.Cluster.{Cluster, ClusterEvent, FindsEach, Setup, cluster_happens}
use Rattle.qq_cluster_model.specs.Rules.{IsFound, IsNothing, IsRestart}
use Rattle.qq_cluster_laws.specs.Linked.{IsLinked, IsReached, lot_of, parts_at}
use Rattle.qq_cluster_laws.specs.Serves.{Serves}
use Rattle.qq_cluster_laws.specs.Traced.{IsTracedAt}
use Rattle.qq_cluster_laws.proofs.Calls.{found-traced}
use Rattle.qq_node_log.specs.Found.{AreLanes, Settles}
use Rattle.qq_node_log.specs.Log.{IsWhole, disk_in}
use Rattle.qq_node_log.specs.Steps.{SameDisk}
use Rattle.qq_node_log.specs.declared.node_log.NodeLog.TheVariants.{Open}
use Rattle.qq_cluster.specs.Nodes.{IsNodeAt, IsNodeOf, Served, Stands, seen}
use Rattle.qq_opening.specs.Taking.{AllChange, FindsLanes, GoesOn, IsHanded, Recovers, StepsUp, TakesUpOne, handed_of, pair_index, pairs}
use Rattle.qq_opening.specs.declared.taking.Handed.{Handed}
use Rattle.qq_cluster.specs.declared.node.Node.{Node}
use Rattle.qq_cluster.specs.declared.nodes.Nodes.{Nodes as Held}
use Rattle.qq_opening.proofs.FoundEach.{found-rule, known-seat, node-after, queues-after, quiet-after}
use Rattle.qq_opening.proofs.Changing.{all-long}
use Rattle.qq_opening.proofs.OwnDisk.{disk-serves}
use Rattle.qq_cluster.proofs.OwnStands.{node-was, set-here, set-twice, stands-own}
use Rattle.qq_cluster.proofs.Owned.{AllOwn, IsOwn}
use Rattle.qq_cluster.proofs.Pumping.{rule-if}
use Rattle.qq_cluster.proofs.Stands.{served-nothing}

own-find : (k : ℕ) (ops : ℕ → ℕ) → IsOwn k (FindsEach k ops)
own-find k ops = record { seen = refl; calm = λ j. tt }

pub some-same : {A : Type 0} (x y : A) → Some x ≡ Some y → x ≡ y
some-same x y e = cc

-- ---- a node that is up

-- a node that is up stays as it is
pub restart-up : {D : Type 0} {facts : DiskFacts D} (k : ℕ) (held : Held D) (outcome : Outcome)
    → ((setup : Setup) (c : Cluster) → Stands facts setup held c → true ≡ c.up k)
    → Served facts (λ setup. IsRestart setup k) held held outcome outcome
restart-up k held outcome up =
    served-nothing held outcome
    (λ setup c r st. rule-if (c.up k) IsNothing (IsFound setup k) c [] (sym (up setup c st)) refl)

-- ---- a node that was recovered

module _ {D : Type 0} {facts : DiskFacts D} (node : NodeId) (old : Held D) (at : IsNodeAt node old)
    (finds : FindsLanes facts node old) where
  abbrev k : ℕ
  k = node.0

  abbrev mid : Held D
  mid = record old { nodes = finds.nodes }

  abbrev own_lanes : List (Option Lane)
  own_lanes = finds.lanes

  abbrev was_node : Node D
  was_node = finds.turn.old

  abbrev mid_node : Node D
  mid_node = finds.turn.new

  abbrev rec : Recovers facts old.log_bytes was_node mid_node own_lanes
  rec = finds.turn.turns

  there : slice_get finds.nodes.items (k - 1) ≡ Some mid_node
  there =
      ap (λ (l : List (Node D)). slice_get l (k - 1)) finds.turn.is
      ∙ set-here k old.nodes.items was_node mid_node finds.turn.here

  pub was-node : (setup : Setup) (c : Cluster) → Stands facts setup old c → IsNodeOf facts setup c k was_node
  was-node setup c st = node-was setup c old k was_node st at.0 finds.turn.here

  module _ (setup : Setup) (c : Cluster) (st : Stands facts setup old c) where
    was : IsNodeOf facts setup c k was_node
    was = was-node setup c st

    pub same-disk : SameDisk facts (ids_of (lot_of setup k)) (disk_in rec.own) rec.found.wal.disk
    same-disk =
        subst (λ (ids : List QueueId). SameDisk facts ids (disk_in rec.own) rec.found.wal.disk) was.queues_are rec.disk

    pub whole-then : IsWhole facts (ids_of (lot_of setup k)) rec.found.wal.disk
    whole-then =
        same-disk.whole (subst (λ log. IsWhole facts (ids_of (lot_of setup k)) (disk_in log))
        (some-same was.own rec.own (sym was.log_is ∙ rec.was)) was.log.whole)

    pub found-lanes : AreLanes (ids_of (lot_of setup k)) rec.has.lanes own_lanes
    found-lanes =
        subst (AreLanes (ids_of (lot_of setup k)) rec.has.lanes) (sym rec.lanes_are)
        (subst (λ (ids : List QueueId). AreLanes ids rec.has.lanes rec.found.lanes.items) was.queues_are rec.has.each)

    -- what recovery settles on, of a disk that was linked
    pub settles : IsTrue (facts.tells (disk_in rec.own)) → IsLinked setup c k (now (facts.past (disk_in rec.own)))
        → Settles (lot_of setup k) (parts_at c k) rec.has.lanes
        (facts.past (disk_in rec.own)) (facts.past rec.found.wal.disk)
    settles told linked =
        rec.has.settles told (lot_of setup k) (parts_at c k) was.queues_are linked.promised

    pub read-then : IsTrue (facts.tells (disk_in rec.own))
        → lanes_read (ids_of (lot_of setup k)) (shown (now (facts.past (disk_in rec.own)))) ≡ Ok rec.has.lanes
    read-then told =
        subst (λ (ids : List QueueId). lanes_read ids (shown (now (facts.past (disk_in rec.own)))) ≡ Ok rec.has.lanes)
        was.queues_are (rec.has.read told)

  -- ---- its members go on

  module _ (opens : Bool) (new : Held D) (goes : GoesOn node opens own_lanes mid new) where
    own-is : goes.own ≡ mid_node
    own-is = some-same goes.own mid_node (sym goes.here ∙ there)

    abbrev up_node : Node D
    up_node = record mid_node { up = true; empty = false }

    abbrev handed : Handed
    handed = handed_of opens was_node.empty

    pub nodes-are : new.nodes.items ≡ slice_set old.nodes.items (k - 1) up_node
    nodes-are =
        goes.nodes_are
        ∙ ap (λ (y : Node D). slice_set finds.nodes.items (k - 1) (record y { up = true; empty = false })) own-is
        ∙ ap (λ (l : List (Node D)). slice_set l (k - 1) up_node) finds.turn.is
        ∙ set-twice old.nodes.items (k - 1) mid_node up_node

    -- by the queues that the node has
    pub take-own : AllChange pair_index (TakesUpOne k handed) (pairs was_node.queues.items own_lanes)
        old.queues.items new.queues.items
    take-own =
        subst (λ (y : Node D). AllChange pair_index (TakesUpOne k (handed_of opens y.empty))
        (pairs y.queues.items own_lanes) old.queues.items new.queues.items) (own-is ∙ rec.is) goes.queues

    module _ (setup : Setup) (c : Cluster) (r : IsReached setup c) (st : Stands facts setup old c)
        (down : c.up k ≡ false)
        (fits : (y : QueueId × Option Lane) → In y (pairs (ids_of (lot_of setup k)) own_lanes) → (place : ℕ)
        → y.0.0 ≡ place → IsHanded handed y.1 ((c.queue place).group.seat k)) where
      take-up : AllChange pair_index (TakesUpOne k handed) (pairs (ids_of (lot_of setup k)) own_lanes)
          old.queues.items new.queues.items
      take-up =
          subst (λ (ids : List QueueId). AllChange pair_index (TakesUpOne k handed) (pairs ids own_lanes)
          old.queues.items new.queues.items) (was-node setup c st).queues_are take-own

      abbrev ops : ℕ → ℕ
      ops = ops_found (lot_of setup k) rec.has.lanes

      abbrev events : List ClusterEvent
      events = FindsEach k ops ∷ []

      own-events : AllOwn k events
      own-events = (own-find k ops, tt)

      many : length new.queues.items ≡ length old.queues.items
      many =
          all-long pair_index (TakesUpOne k handed) (pairs (ids_of (lot_of setup k)) own_lanes) old.queues.items
          new.queues.items take-up

      stands-then : Stands facts setup new (cluster_happens c (FindsEach k ops))
      stands-then =
          let is : IsNodeOf facts setup c k was_node = was-node setup c st in
          let zip = found-lanes setup c st in
          stands-own setup c k events old new was_node up_node own-events
          (record { low = at.0; here = finds.turn.here; same = goes.is; nodes = nodes-are; many = many }) st
          (node-after setup c k old new.queues.items was_node handed rec.has.lanes own_lanes r st is down zip take-up
          fits rec.found.wal up_node (ap (λ (y : Node D). record y { up = true; empty = false }) rec.is)
          (λ ends. rec.has.goes_on (lot_of setup k) (parts_at c k) is.queues_are ends) (whole-then setup c st))
          (queues-after setup c k old new.queues.items was_node handed rec.has.lanes own_lanes r st is down zip
          take-up fits) refl
          (λ i lt calm. quiet-after setup c k old new.queues.items was_node handed rec.has.lanes own_lanes r st is
          down zip take-up fits i lt (st.quiet i lt calm))

      traced : IsTrue (facts.tells (disk_in rec.own)) → IsLinked setup c k (now (facts.past (disk_in rec.own)))
          → IsTracedAt setup c k events (facts.past (disk_in rec.own)) (facts.past rec.found.wal.disk)
      traced told linked =
          let s = settles setup c st told linked in
          found-traced setup c k rec.has.lanes
          (facts.past (disk_in rec.own)) (facts.past rec.found.wal.disk) linked.promised
          st.set_up.groups r down (was-node setup c st).members (read-then setup c st told) s.between
          s.stays s.tied

      pub serves-then : (outcome : Outcome) → Serves setup c (IsRestart setup k c) (Stands facts setup new)
          (seen facts old) (seen facts new) outcome outcome
      serves-then outcome =
          disk-serves setup c k events old new was_node up_node rec.own (Open rec.found.wal) own-events at.0
          finds.turn.here nodes-are rec.was (ap (λ (y : Node D). y.log) rec.is) (same-disk setup c st)
          (IsRestart setup k c) outcome outcome
          (λ failed. absurd (false≢true failed))
          (found-rule setup c k old new.queues.items was_node handed rec.has.lanes own_lanes r st
          (was-node setup c st) down (found-lanes setup c st) take-up fits)
          stands-then (same-outcome outcome) traced

-- a node that was opened before
pub restarted : {D : Type 0} {facts : DiskFacts D} (node : NodeId) (old new : Held D) (outcome : Outcome)
    → IsNodeAt node old
    → ((setup : Setup) (c : Cluster) → Stands facts setup old c → c.up node.0 ≡ false)
    → StepsUp facts node false old new → Served facts (λ setup. IsRestart setup node.0) old new outcome outcome
restarted node old new outcome at down step = record {
  serves = λ setup c r st. serves-then node old at step.found false new step.goes setup c r st (down setup c st)
      (λ y here place same. known-seat setup c node.0 old st step.found.turn.old r
      (was-node node old at step.found setup c st) place y.1) outcome;
}
