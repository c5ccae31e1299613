-- What it is that all nodes stop, and their disks are as they were.
use Rattle.std.specs.Prelude.{ℕ, List, map}
use Rattle.qq_disk.specs.declared.image.Image.{Image}
use Rattle.qq_cluster_model.specs.Cluster.{ClusterEvent, Crashes}

-- Each of these nodes is crashed, in order, with an image of its own. What becomes of the cluster doesn't depend on the
-- images, so nodes that were stopped stand for the cluster behind crashes with any.
abbrev pub crashes_with : (ℕ → Image) → List ℕ → List ClusterEvent
crashes_with images nodes = map (λ (k : ℕ). Crashes k (images k)) nodes
