-- The disks of all nodes side by side, at each time while events happen.
use Rattle.std.specs.Prelude.{◌≡◌, ◌⊎◌, ℕ, List, [], ◌∷◌, ◌++◌, Bool, true, false}
use Rattle.qq_disk.specs.Disk.{Disk, now}
use Rattle.qq_raft_protocol.specs.Facts.{In}
use Rattle.qq_cluster_model.specs.Cluster.{Cluster, ClusterEvent, Crashes, Setup, cluster_happens}
use Rattle.qq_cluster_model.specs.ClusterLaws.{HasGroups}
use Rattle.qq_cluster_laws.specs.Held.{Supports}
use Rattle.qq_cluster_laws.specs.Traced.{IsFair, KeepsAt}

-- These pasts go on to those. Whatever crashes leave of the nodes' disks supports each audit, at whichever of these moments
-- each disk is.
pub record SupportBetween (setup : Setup) (groups : HasGroups setup) (c : Cluster) (old new : ℕ → List Disk) : Type 0
  where
    pub more : ℕ → List Disk
    pub is : (k : ℕ) → In k setup.nodes → new k ≡ more k ++ old k
    pub each : (disks : ℕ → Disk)
        → ((k : ℕ) → In k setup.nodes → (disks k ≡ now (old k)) ⊎ In (disks k) (more k))
        → Supports setup groups c disks

abbrev pub is_crash : ClusterEvent → Bool
is_crash (Crashes k image) = true
is_crash _ = false

-- So it is before each event, while it happens, if it is no crash, and at the end. A crash whose image isn't fair ends what
-- is said.
abbrev pub SupportAlways : (setup : Setup) → HasGroups setup → Cluster → List ClusterEvent → (ℕ → List Disk)
    → (ℕ → List Disk) → Type 0
SupportAlways setup groups c [] old new = SupportBetween setup groups c old new
SupportAlways setup groups c (event ∷ events) old new =
    (start : ℕ → List Disk) × (mid : ℕ → List Disk) × SupportBetween setup groups c old start
    × ((k : ℕ) → In k setup.nodes → KeepsAt setup c k event (start k) (mid k))
    × (is_crash event ≡ false → SupportBetween setup groups c start mid)
    × (((k : ℕ) → In k setup.nodes → IsFair setup k event (now (start k)))
    → SupportAlways setup groups (cluster_happens c event) events mid new)
