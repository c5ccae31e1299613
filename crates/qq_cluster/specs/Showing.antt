-- What is shown of a queue's members.
use Rattle.std.specs.Prelude.{◌++◌, ℕ, Bool, List, [], nat_eq, if◌then◌else◌}
use Rattle.std.specs.List.{list_any}
use Rattle.qq_base.specs.declared.ids.QueueId.{QueueId}
use Rattle.qq_raft_model.specs.Group.{has_node}
use Rattle.qq_cluster_model.specs.Cluster.{Cluster, Setup, members}
use Rattle.qq_cluster_model.specs.Outcome.{Outcome}
use Rattle.qq_cluster_model.specs.Texts.{state_line}

-- a queue of this number is among them
abbrev pub has_queue : ℕ → List QueueId → Bool
has_queue place ids = list_any (λ (id : QueueId). nat_eq id.0 place) ids

-- the line of a queue's member on a node, where it has one
abbrev pub member_text : Setup → Cluster → ℕ → ℕ → List ℕ
member_text setup c place k =
    if has_node k (members setup place)
    then state_line (setup.name place) k ((c.queue place).group.seat k).server else []

-- a line that the nodes say comes behind a text
abbrev pub with_line : List ℕ → Outcome → Outcome
with_line line before = record before { text = before.text ++ line }
