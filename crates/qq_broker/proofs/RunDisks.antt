-- What the disks of a run keep.
use Rattle.std.proofs.Common.{ℕ, List}
use Rattle.std.specs.Prelude.{IsTrue}
use Rattle.qq_disk.specs.declared.image.Image.{Image}
use Rattle.qq_disk.specs.Disk.{now}
use Rattle.qq_disk.specs.Facts.{DiskFacts}
use Rattle.qq_raft_protocol.specs.Facts.{In}
use Rattle.qq_script_lines.specs.declared.line.Nodes.{Nodes}
use Rattle.qq_script_lines.specs.declared.line.ScriptLine.TheVariants as lines
use Rattle.qq_route.specs.declared.setup.Setup.{Setup}
use Rattle.qq_wal_chain.specs.Image.{HasNoJunk}
use Rattle.qq_cluster_model.specs.Cluster.{new_cluster}
use Rattle.qq_cluster_laws.specs.Linked.{IsLinked}
use Rattle.qq_cluster_run.specs.Inputs.{Input}
use Rattle.qq_cluster_run.specs.Serving.{Behind, cluster_behind, setup_behind}
use Rattle.qq_broker.specs.Lives.{Became, Giving}
use Rattle.qq_broker.specs.Takers.{RunHad}
use Rattle.qq_taker.specs.Takers.{Takers}
use Rattle.qq_broker.proofs.Fair.{AnyTaker, fair-images, fair-run}
use Rattle.qq_broker.proofs.Keeping.{AreNew, IsEmptyPromised, IsHonestWithoutJunk, IsReadWherePromised, kept-new}
use Rattle.qq_broker.proofs.Restarted.{restarted}

module _ (readable : IsReadWherePromised) (empty : IsEmptyPromised) (honest : IsHonestWithoutJunk) {D : Type 0}
    (given : Giving D) (facts : DiskFacts D) (first : Takers) (s : Setup) (all left : List Input)
    (b : Behind (RunHad given facts first) s all left) (all_new : (k : ℕ) → AreNew given facts k)
    (shows : (disk : D) → IsTrue (facts.tells disk))
    (clean : (nodes : Nodes) (image : Image) → In (lines.Crash nodes image) b.lines → HasNoJunk image) (k : ℕ)
    (there : In k (setup_behind b).nodes) where
  -- after each line the log of each node is linked to its disk
  pub run-linked : (last : D) → Became given facts (setup_behind b) b.events k last
      → IsLinked (setup_behind b) (cluster_behind b) k (now (facts.past last))
  run-linked last became =
      kept-new readable empty honest given facts (setup_behind b) k b.events last b.begins.groups (all_new k)
      (shows last) (restarted s all left b k there)
      (λ image here. fair-images (setup_behind b) HasNoJunk AnyTaker k image (new_cluster (setup_behind b)) b.events
      (fair-run (setup_behind b) HasNoJunk AnyTaker b.lines clean (λ n. tt) (new_cluster (setup_behind b)) b.events b.allowed) here) became

  pub run-disk : (last : D) × Became given facts (setup_behind b) b.events k last
      × IsLinked (setup_behind b) (cluster_behind b) k (now (facts.past last))
  run-disk = by (b.disks.0 k there)
    where
      by : (last : D) × Became given facts (setup_behind b) b.events k last
          → (last : D) × Became given facts (setup_behind b) b.events k last
          × IsLinked (setup_behind b) (cluster_behind b) k (now (facts.past last))
      by (last, became) = (last, became, run-linked last became)
