-- Which events a node's log sees.
use Rattle.std.specs.Prelude.{ℕ, Bool, false, Option, Some, None, nat_eq}
use Rattle.qq_cluster_model.specs.Cluster.{ClusterEvent, At, NodeWrites, NodeSyncs, Fails, Crashes, FindsEach}
use Rattle.qq_cluster_model.specs.Queue.{Event, Writes, Syncs, Stops, Finds}

-- the node whose log is written, synced or found, or whose member stops
abbrev pub touched : Event → Option ℕ
touched (Writes k) = Some k
touched (Syncs k) = Some k
touched (Stops k) = Some k
touched (Finds k op) = Some k
touched _ = None

-- the node whose log sees an event, None where no log does
abbrev pub seen_by : ClusterEvent → Option ℕ
seen_by (At place event) = touched event
seen_by (NodeWrites k) = Some k
seen_by (NodeSyncs k) = Some k
seen_by (Fails k) = Some k
seen_by (Crashes k image) = Some k
seen_by (FindsEach k ops) = Some k
seen_by _ = None

abbrev pub is_node : ℕ → Option ℕ → Bool
is_node k None = false
is_node k (Some j) = nat_eq j k

abbrev pub touches : ℕ → Event → Bool
touches k event = is_node k (touched event)

abbrev pub sees : ℕ → ClusterEvent → Bool
sees k event = is_node k (seen_by event)
