-- What a call of a node's log does to its disk is a trace of its events.
use Rattle.std.proofs.Common.{◌≡◌, ℕ, Bool, true, false, List, [], ◌∷◌, Ok, Some, take, refl, sym, subst, arith}
use Rattle.std.proofs.lemmas.Bool.{eq-eqb}
use Rattle.qq_base.proofs.Fronts.{front-more}
use Rattle.qq_base.proofs.Lists.{AllByRecursion-weaker}
use Rattle.qq_disk.specs.declared.image.Image.{Image}
use Rattle.qq_disk.specs.Disk.{Disk, now}
use Rattle.qq_disk.specs.Moments.{Adds}
use Rattle.qq_disk.proofs.Moments.{adds-none, adds-now, adds-weaker}
use Rattle.qq_log.specs.declared.op.Op.{Op}
use Rattle.qq_log.specs.Stable.{stable}
use Rattle.qq_lots.specs.Kept.{IsTied, KeepsPromised}
use Rattle.qq_lots.specs.Left.{AllBetween, IsBetween, ops_found, state_in}
use Rattle.qq_lots.specs.Lots.{find_each, give_batch, ids_of, keep_all}
use Rattle.qq_lots.proofs.Writes.{Grows, promised-later, tied-promised}
use Rattle.qq_recover.specs.Reading.{lanes_read, shown}
use Rattle.qq_wal_chain.specs.Lanes.{Lanes}
use Rattle.qq_cluster_model.specs.Cluster.{Cluster, ClusterEvent, Setup, NodeWrites, NodeSyncs, Fails, Crashes, FindsEach, cluster_happens}
use Rattle.qq_cluster_model.specs.ClusterLaws.{HasGroups}
use Rattle.qq_cluster_laws.specs.Linked.{IsLinked, IsPromised, IsReached, MembersFollow, lot_of, part_at, parts_at}
use Rattle.qq_cluster_laws.specs.Traced.{FindsWhatIsRead, IsBrokenAt, IsTracedAt, Keeps, KeepsAt, KeepsWhere, LeavesImage, StaysPromised}
use Rattle.qq_cluster_laws.specs.Unseen.{sees}
use Rattle.qq_cluster_laws.specs.Waiting.{AllWait, ops_waiting}
use Rattle.qq_cluster_laws.proofs.Links.{all-take_up, crashed-linked, failed-linked, found-linked, sync-linked, sync-promised, write-linked, write-promised}
use Rattle.qq_cluster_laws.proofs.Traces.{broken-one, traced-one, traces-event}
use Rattle.qq_cluster_laws.proofs.Waiting.{gives-waiting}

module _ (setup : Setup) (c : Cluster) (k : ℕ) where
  -- an event of the node's own log
  own-keeps : (d : Cluster) (event : ClusterEvent) (old new : List Disk) → sees k event ≡ true
      → Keeps setup d k event old new → KeepsAt setup d k event old new
  own-keeps d event old new own keeps' =
      subst (λ (b : Bool). KeepsWhere b setup d k event old new) (sym own) keeps'

  itself : sees k (Fails k) ≡ true
  itself = eq-eqb k k refl

  -- ---- failures

  failed-behind : (d : Cluster) (old new : List Disk) → IsPromised setup d k (now old)
      → StaysPromised setup d k old new → IsTracedAt setup d k (Fails k ∷ []) old new
  failed-behind d old new promised adds =
      traced-one setup d k (Fails k) old new promised (own-keeps d (Fails k) old new itself adds)
      (λ fair. failed-linked setup d k (now new) (adds-now (IsPromised setup d k) old new adds promised))

  -- a call of the disk failed
  pub failed-traced : (old new : List Disk) → IsPromised setup c k (now old) → StaysPromised setup c k old new
      → IsTracedAt setup c k (Fails k ∷ []) old new
  failed-traced old new promised adds = failed-behind c old new promised adds

  -- ---- writes

  -- what is promised before a write is promised behind it
  writes-more : (d : Disk) → IsPromised setup c k d → IsPromised setup (cluster_happens c (NodeWrites k)) k d
  writes-more d p =
      promised-later (lot_of setup k) (parts_at c k) (parts_at (cluster_happens c (NodeWrites k)) k) d
      (λ place. subst (Grows (part_at k (c.queue place))) (sym (gives-waiting k (c.queue place)))
      (front-more ((c.queue place).group.seat k).ops (ops_waiting k (c.queue place)), omega arith)) p

  module _ (ops : List Op) (old new : List Disk) (waits : AllWait setup c k ops) (linked : IsLinked setup c k (now old))
      (adds : Adds (KeepsPromised (lot_of setup k) (give_batch (lot_of setup k) ops (parts_at c k))) old new) where
    written-keeps : StaysPromised setup (cluster_happens c (NodeWrites k)) k old new
    written-keeps =
        adds-weaker (KeepsPromised (lot_of setup k) (give_batch (lot_of setup k) ops (parts_at c k)))
        (IsPromised setup (cluster_happens c (NodeWrites k)) k) old new
        (λ d promised. write-promised setup c k ops d waits promised) adds

    written-now : IsPromised setup (cluster_happens c (NodeWrites k)) k (now new)
    written-now =
        adds-now (IsPromised setup (cluster_happens c (NodeWrites k)) k) old new written-keeps
        (writes-more (now old) linked.promised)

    pub written-traced : IsTied (lot_of setup k) (give_batch (lot_of setup k) ops (parts_at c k)) (now new)
        → IsTracedAt setup c k (NodeWrites k ∷ []) old new
    written-traced tied =
        traced-one setup c k (NodeWrites k) old new linked.promised (own-keeps c (NodeWrites k) old new itself written-keeps)
        (λ fair. write-linked setup c k ops (now new) waits tied)

    -- the disk failed, and some of the ops may stand there
    pub write_failed-traced : IsTracedAt setup c k (NodeWrites k ∷ Fails k ∷ []) old new
    write_failed-traced =
        traces-event IsLinked setup c k (NodeWrites k) (Fails k ∷ []) old new new linked.promised
        (own-keeps c (NodeWrites k) old new itself written-keeps)
        (λ fair. failed-behind (cluster_happens c (NodeWrites k)) new new written-now
        (adds-none (IsPromised setup (cluster_happens c (NodeWrites k)) k) new))

    -- it was given up
    pub write-broken : IsBrokenAt setup c k (NodeWrites k ∷ []) old new
    write-broken =
        broken-one setup c k (NodeWrites k) old new linked.promised
        (own-keeps c (NodeWrites k) old new itself written-keeps) written-now

  -- ---- syncs

  module _ (old mid new : List Disk) (up : c.up k ≡ true) (follow : MembersFollow setup c k)
      (promised : IsPromised setup c k (now old)) (before : StaysPromised setup c k old mid)
      (tied : IsTied (lot_of setup k) (keep_all (parts_at c k)) (now mid))
      (behind : Adds (KeepsPromised (lot_of setup k) (keep_all (parts_at c k))) mid new) where
    synced-keeps : StaysPromised setup (cluster_happens c (NodeSyncs k)) k mid new
    synced-keeps =
        adds-weaker (KeepsPromised (lot_of setup k) (keep_all (parts_at c k)))
        (IsPromised setup (cluster_happens c (NodeSyncs k)) k) mid new
        (λ d own. sync-promised setup c k d up follow own) behind

    synced-now : IsPromised setup (cluster_happens c (NodeSyncs k)) k (now mid)
    synced-now =
        sync-promised setup c k (now mid) up follow
        (tied-promised (lot_of setup k) (keep_all (parts_at c k)) (now mid) tied)

    pub synced-traced : IsTied (lot_of setup k) (keep_all (parts_at c k)) (now new)
        → IsTracedAt setup c k (NodeSyncs k ∷ []) old new
    synced-traced last =
        traces-event IsLinked setup c k (NodeSyncs k) [] old mid new promised
        (own-keeps c (NodeSyncs k) old mid itself before)
        (λ fair. (synced-now, synced-keeps, sync-linked setup c k (now new) up follow last))

    -- the sync is done, and the disk failed at a new file
    pub sync_failed-traced : IsTracedAt setup c k (NodeSyncs k ∷ Fails k ∷ []) old new
    sync_failed-traced =
        traces-event IsLinked setup c k (NodeSyncs k) (Fails k ∷ []) old mid new promised
        (own-keeps c (NodeSyncs k) old mid itself before)
        (λ fair. failed-behind (cluster_happens c (NodeSyncs k)) mid new synced-now synced-keeps)

  -- ---- crashes and restarts

  pub crashed-traced : (image : Image) (old new : List Disk) → IsPromised setup c k (now old)
      → LeavesImage image old new → IsTracedAt setup c k (Crashes k image ∷ []) old new
  crashed-traced image old new promised left =
      traced-one setup c k (Crashes k image) old new promised (own-keeps c (Crashes k image) old new itself left)
      (λ fair. crashed-linked setup c k image old new promised left (fair refl))

  pub found-traced : (lanes : Lanes) (old new : List Disk) → IsPromised setup c k (now old) → HasGroups setup → IsReached setup c → c.up k ≡ false
      → MembersFollow setup c k → lanes_read (ids_of (lot_of setup k)) (shown (now old)) ≡ Ok lanes
      → AllBetween (lot_of setup k) (parts_at c k) lanes → StaysPromised setup c k old new
      → IsTied (lot_of setup k) (find_each (ops_found (lot_of setup k) lanes) (parts_at c k)) (now new)
      → IsTracedAt setup c k (FindsEach k (ops_found (lot_of setup k) lanes) ∷ []) old new
  found-traced lanes old new promised groups r down follow read between adds tied =
      let ops : ℕ → ℕ = ops_found (lot_of setup k) lanes in
      let finds : FindsWhatIsRead setup c k ops (now old) = record {
        lanes = lanes;
        read = read;
        each = AllByRecursion-weaker
            (λ (place : ℕ). IsBetween (parts_at c k place) (state_in lanes ((lot_of setup k).id place)))
            (λ (place : ℕ).
            stable (take (ops place) (parts_at c k place).ops) ≡ Some (state_in lanes ((lot_of setup k).id place)))
            (λ place own. own.is) (lot_of setup k).places between;
      } in
      traced-one setup c k (FindsEach k ops) old new promised (own-keeps c (FindsEach k ops) old new itself (finds, adds))
      (λ fair. found-linked setup c k ops (now new) tied (all-take_up setup c k groups r lanes down follow between))
