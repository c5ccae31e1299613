-- A script's setup as a cluster has it.
use Rattle.std.specs.Prelude.{◌≡◌, ℕ, Bool, true, false, List, [], ◌∷◌, length, map, nat_eq, Option, Some, None}
use Rattle.std.specs.List.{find, list_all, range_with_len}
use Rattle.qq_base.specs.declared.ids.NodeId.{NodeId}
use Rattle.qq_base.specs.declared.ids.QueueId.{QueueId}
use Rattle.qq_entry.specs.declared.queue.QueueArgs.{QueueArgs}
use Rattle.qq_entry.specs.Queue.{default_args}
use Rattle.qq_log.specs.declared.op.Op.{Op}
use Rattle.qq_log.specs.declared.op.Op.TheVariants.{Change}
use Rattle.qq_raft_model.specs.Group.{Group, Seat}
use Rattle.qq_route.specs.Routes.{Table, targets}
use Rattle.qq_route.specs.declared.queue_row.QueueRow.{QueueRow}
use Rattle.qq_route.specs.declared.setup.Setup.{Setup}
use Rattle.qq_route.specs.Setup.{SetupState, state_of}
use Rattle.qq_cluster_model.specs.Cluster.{Setup as ClusterSetup}
use Rattle.qq_cluster_model.specs.ClusterLaws.{HasGroups}

-- ---- queues

-- a queue's place is its number
abbrev pub place_of : QueueRow → ℕ
place_of row = row.args.queue.0

abbrev pub row_at : List QueueRow → ℕ → Option QueueRow
row_at rows place = find (λ row. nat_eq (place_of row) place) rows

abbrev pub name_by : Option QueueRow → List ℕ
name_by None = []
name_by (Some row) = row.name

abbrev pub args_by : Option QueueRow → ℕ → QueueArgs
args_by None place = default_args (record { 0 = place }) 1
args_by (Some row) place = row.args

abbrev pub members_by : Option QueueRow → List NodeId
members_by None = []
members_by (Some row) = row.members

-- queues are numbered from 1, also where there is none
abbrev pub first_place : List QueueRow → ℕ
first_place [] = 1
first_place (row ∷ rows) = place_of row

-- ---- routes

abbrev pub places_by : Option (List QueueId) → List ℕ
places_by None = []
places_by (Some queues) = map (λ (queue : QueueId). queue.0) queues

-- to an exchange that isn't there no queue is bound
abbrev pub places_for : Table → (exchange key : List ℕ) → List ℕ
places_for table exchange key = places_by (targets table exchange key)

-- ---- logs

-- the ops of each queue that each node's log holds as a run begins, by the queue's place and the node
abbrev pub Logs : Type 0
Logs = ℕ → ℕ → List Op

abbrev pub new_logs : Logs
new_logs place k = []

-- a member that is down, and all of whose ops are durable
abbrev pub seat_over : List Op → Seat
seat_over ops = record { server = None; ops = ops; noticed = length ops }

abbrev pub group_over : QueueId → List NodeId → (ℕ → List Op) → Group
group_over queue nodes logs =
    record { queue = queue; nodes = nodes; seat = λ k. seat_over (logs k); bag = []; audit = [] }

-- ---- the cluster

-- nodes from 1 on, over these logs
abbrev pub cluster_of : SetupState → Logs → ClusterSetup
cluster_of s logs = record {
  nodes = range_with_len 1 s.nodes;
  places = map place_of s.queues;
  first = first_place s.queues;
  name = λ place. name_by (row_at s.queues place);
  args = λ place. args_by (row_at s.queues place) place;
  group = λ place. group_over (record { 0 = place }) (members_by (row_at s.queues place)) (logs place);
  targets = places_for s.table;
}

abbrev pub cluster_over : Setup → Logs → ClusterSetup
cluster_over s logs = cluster_of (state_of s) logs

-- over new logs
abbrev pub cluster_setup : Setup → ClusterSetup
cluster_setup s = cluster_over s new_logs

-- ---- logs that a cluster may begin with

-- a change of this queue
abbrev pub is_change_of : QueueId → Op → Bool
is_change_of id (Change own op term vote keep entries) = nat_eq own.0 id.0
is_change_of id _ = false

-- Each log holds changes of its queue alone, and those of each queue support an audit: they may be what nodes have left of
-- one group.
pub record CanBegin (s : Setup) (logs : Logs) : Type 0 where
  pub own : (place k : ℕ) → list_all (is_change_of (record { 0 = place })) (logs place k) ≡ true
  pub groups : HasGroups (cluster_over s logs)
