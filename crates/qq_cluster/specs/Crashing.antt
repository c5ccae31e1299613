-- What a crash does to a node and its log, and what it has done.
use Rattle.std.specs.Prelude.{◌≡◌, ◌≢◌, ℕ, false, List, Some, IsTrue}
use Rattle.qq_disk.specs.declared.image.Image.{Image}
use Rattle.qq_disk.specs.Facts.{DiskFacts}
use Rattle.qq_lots.specs.Lots.{Lot, Parts}
use Rattle.qq_node_log.specs.Log.{Stands as IsLog, disk_in}
use Rattle.qq_node_log.specs.declared.node_log.NodeLog.{NodeLog}
use Rattle.qq_ports.specs.Yard.{IsAfterCrash}
use Rattle.qq_cluster_model.specs.Cluster.{Cluster, ClusterEvent, Setup}
use Rattle.qq_cluster_model.specs.Outcome.{Outcome}
use Rattle.qq_cluster_laws.specs.Linked.{IsReached}
use Rattle.qq_cluster_laws.specs.Serves.{Happened}
use Rattle.qq_cluster.specs.Nodes.{Stands, seen}
use Rattle.qq_cluster.specs.declared.node.Node.{Node}
use Rattle.qq_cluster.specs.declared.nodes.Nodes.{Nodes as Held}

-- ---- a node

-- a node has a log
abbrev pub HasOwn : {D : Type 0} → Node D → Type 0
HasOwn {D} node = (own : NodeLog D) × (node.log ≡ Some own)

-- a node is down, and its disk is what an image names of what it was
pub record IsCrashedTo {D : Type 0} (facts : DiskFacts D) (image : Image) (old new : Node D) : Type 0
  where
    pub own : NodeLog D
    pub was : old.log ≡ Some own
    pub left : NodeLog D
    pub is : new ≡ record old { log = Some left; up = false }
    pub image_is : IsTrue (facts.tells (disk_in own)) → IsAfterCrash image
        (facts.past (disk_in own)) (facts.past (disk_in left))
    pub told : facts.tells (disk_in left) ≡ facts.tells (disk_in own)
    pub stands : (lot : Lot) (parts : Parts) → IsLog facts lot parts false left

-- ---- what has happened

-- Of whatever cluster they stood for, what has happened is what a rule allows there, and they stand for the cluster after
-- it. A node may have been crashed.
pub record HasHappened {D : Type 0} (facts : DiskFacts D) (Rule : Setup → Cluster → List ClusterEvent → Type 0)
    (old new : Held D) (before later : Outcome) : Type 0 where
  pub happened : (setup : Setup) (c : Cluster) → IsReached setup c → Stands facts setup old c
      → Happened setup c (Rule setup c) (Stands facts setup new) (seen facts old) (seen facts new) before later

-- A crash of a node leaves the named image of its disk, linked or not, and each other node's disk as it was.
pub record LeavesDisks {D : Type 0} (facts : DiskFacts D) (k : ℕ) (image : Image) (old new : Held D) : Type 0 where
  pub told : (seen facts new k).tells ≡ (seen facts old k).tells
  pub left : IsTrue (seen facts old k).tells → IsAfterCrash image (seen facts old k).past (seen facts new k).past
  pub others : (j : ℕ) → j ≢ k → seen facts new j ≡ seen facts old j
