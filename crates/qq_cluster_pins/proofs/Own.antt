-- A queue's own ops and rows, and what an opening leaves.
use Rattle.std.proofs.Common.{◌≡◌, ℕ, true, List, Option, Some, refl, sym, ap, ◌∙◌, subst}
use Rattle.std.specs.Prelude.{Contains}
use Rattle.std.specs.List.{AllByRecursion}
use Rattle.qq_base.proofs.Lists.{AllByRecursion-in, In, In-append_left, In-append_right}
use Rattle.qq_base.specs.declared.ids.NodeId.{NodeId}
use Rattle.qq_base.specs.declared.ids.QueueId.{QueueId}
use Rattle.qq_log.specs.Op.{queue}
use Rattle.qq_log.specs.declared.op.Op.{Op}
use Rattle.qq_log.specs.declared.op.Op.TheVariants.{Change, SnapshotMade, SegmentMade}
use Rattle.qq_lots.specs.Lots.{ops_at}
use Rattle.qq_model.proofs.Soundness.{in_contains}
use Rattle.qq_raft_model.specs.Group.{has_node, new_group}
use Rattle.qq_raft_model.specs.State.{Server}
use Rattle.qq_wal_chain.specs.Lanes.{of_queue}
use Rattle.qq_cluster_model.specs.Cluster.{Cluster, Setup, members}
use Rattle.qq_cluster_laws.specs.Linked.{lot_of}
use Rattle.qq_cluster_laws.specs.Waiting.{AllWait, HasOwnGroups, IsChangeOf, IsGroupOf, ops_by, ops_waiting, ops_with_waiting}
use Rattle.qq_cluster_pins.proofs.Images.{in-lot}

-- ---- ops

change-of : (id : QueueId) (op : Op) → IsChangeOf id op → queue op ≡ id
change-of id (Change own op term vote keep entries) is = is
change-of id (SnapshotMade own op head file) is = absurd is
change-of id (SegmentMade own op file first last) is = absurd is

module _ (setup : Setup) (c : Cluster) (place k : ℕ)
    (own : AllByRecursion (IsChangeOf (setup.args place).queue) (ops_with_waiting k (c.queue place))) where
  pub given-own : (op : Op) → Contains ((c.queue place).group.seat k).ops op → queue op ≡ (setup.args place).queue
  given-own op there =
      change-of (setup.args place).queue op
      (AllByRecursion-in (IsChangeOf (setup.args place).queue) op (ops_with_waiting k (c.queue place)) own
      (In-append_left op ((c.queue place).group.seat k).ops (ops_waiting k (c.queue place))
      (in_contains ((c.queue place).group.seat k).ops op there)))

  pub waiting-own : (s : Server) (op : Op) → ((c.queue place).group.seat k).server ≡ Some s → Contains s.ops op
      → queue op ≡ (setup.args place).queue
  waiting-own s op up there =
      change-of (setup.args place).queue op
      (AllByRecursion-in (IsChangeOf (setup.args place).queue) op (ops_with_waiting k (c.queue place)) own
      (In-append_right op ((c.queue place).group.seat k).ops (ops_waiting k (c.queue place))
      (subst (λ (o : Option Server). In op (ops_by o)) (sym up) (in_contains s.ops op there))))

pub all-own : (setup : Setup) (c : Cluster) (place k : ℕ) (s : Server) (ops : List Op) → AllWait setup c k ops
    → Contains setup.places place → has_node k (members setup place) ≡ true
    → ((c.queue place).group.seat k).server ≡ Some s → of_queue (setup.args place).queue.0 ops ≡ s.ops
all-own setup c place k s ops all within member up =
    AllByRecursion-in (λ (p : ℕ). ops_at (lot_of setup k) p ops ≡ ops_waiting k (c.queue p)) place
    (lot_of setup k).places all (in-lot setup k place within member)
    ∙ ap ops_by up

-- new logs have none
pub new-own : (setup : Setup)
    → ((place : ℕ) → (nodes : List NodeId) × (setup.group place ≡ new_group (setup.args place).queue nodes))
    → HasOwnGroups setup
new-own setup new place =
    subst (IsGroupOf (setup.args place).queue) (sym (new place).1) (record { queue = refl; ops = λ k. tt })
