-- What the disks keep that a stopped broker hands back.
use Rattle.std.proofs.Common.{◌≡◌, ℕ, List, Option, Some, sym, subst}
use Rattle.std.specs.Prelude.{IsTrue}
use Rattle.qq_disk.specs.declared.image.Image.{Image}
use Rattle.qq_disk.specs.Disk.{now}
use Rattle.qq_disk.specs.Facts.{DiskFacts}
use Rattle.qq_raft_protocol.specs.Facts.{In}
use Rattle.qq_route.specs.Setup.{SetupState}
use Rattle.qq_wal_chain.specs.Image.{HasNoJunk}
use Rattle.qq_cluster_model.specs.Cluster.{Crashes}
use Rattle.qq_cluster_model.specs.ClusterLaws.{HasGroups}
use Rattle.qq_cluster_laws.specs.Linked.{IsPromised}
use Rattle.qq_cluster_run.specs.Serving.{Run}
use Rattle.qq_broker.specs.Broker.{Rests, cluster_at, seen_among, seen_disk, setup_at}
use Rattle.qq_broker.specs.Lives.{Became, Giving, disk_at}
use Rattle.qq_broker.specs.declared.broker.Audits.{Audits}
use Rattle.qq_broker.proofs.Keeping.{AreNew, IsEmptyPromised, IsHonestWithoutJunk, IsReadWherePromised, kept-new}
use Rattle.qq_broker.proofs.Rested.{some_image}

module _ {D : Type 0} (given : Giving D) (facts : DiskFacts D) (t : SetupState) (disks : List D) (a : Audits D)
    (run : Run) (rests : Rests given facts t disks a run) where
  -- the nodes as they stopped represent a cluster that began with groups
  pub rest-groups : HasGroups (setup_at t run)
  rest-groups = (rests.stands (λ k. some_image)).set_up.groups

  -- each disk of the list keeps what its node's log has promised
  module _ (readable : IsReadWherePromised) (empty : IsEmptyPromised) (honest : IsHonestWithoutJunk)
      (all_new : (k : ℕ) → AreNew given facts k)
      (shows : (k : ℕ) → In k (setup_at t run).nodes → IsTrue (seen_among facts disks k).tells)
      (clean : (k : ℕ) (image : Image) → In (Crashes k image) run.events → HasNoJunk image) where
    pub rest-promised : (k : ℕ) → In k (setup_at t run).nodes
        → IsPromised (setup_at t run) (cluster_at t run) k (now (seen_among facts disks k).past)
    rest-promised k there = by (rests.disks_are k there)
      where
        by : (last : D) × (disk_at k disks ≡ Some last) × Became given facts (setup_at t run) run.events k last
            → IsPromised (setup_at t run) (cluster_at t run) k (now (seen_among facts disks k).past)
        by (last, is, became) =
            subst (λ (o : Option D). IsPromised (setup_at t run) (cluster_at t run) k (now (seen_disk facts o).past))
            (sym is) (kept-new readable empty honest given facts (setup_at t run) k run.events last rest-groups
            (all_new k) (subst (λ (o : Option D). IsTrue (seen_disk facts o).tells) is (shows k there))
            (rests.restarted k there) (clean k) became).promised
