-- What the first restart of a node has come to.
use Rattle.std.specs.Prelude.{ℕ, Bool, true, false, List, [], ◌∷◌, Option, Some, None, nat_eq, if◌then◌else◌}
use Rattle.qq_cluster_model.specs.Cluster.{ClusterEvent, Fails, FindsEach}

-- a node is recovered, true, or its disk fails, false
abbrev pub restarted_by : ℕ → ClusterEvent → Option Bool
restarted_by k (FindsEach j ops) = if nat_eq j k then Some true else None
restarted_by k (Fails j) = if nat_eq j k then Some false else None
restarted_by k _ = None

abbrev pub first_of : Option Bool → Option Bool → Option Bool
first_of None later = later
first_of (Some up) later = Some up

-- The first such event of a node that was down at first: its restart has recovered it, or its disk has failed; None before
-- that.
abbrev pub first_restart : ℕ → List ClusterEvent → Option Bool
first_restart k [] = None
first_restart k (event ∷ events) = first_of (restarted_by k event) (first_restart k events)
