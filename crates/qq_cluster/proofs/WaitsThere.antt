-- What a queue tells of its member on a node is what waits there.
use Rattle.std.proofs.Common.{◌≡◌, ◌⊎◌, ◌<◌, ◌≤◌, ◌+◌, ◌-◌, ℕ, ◌&&◌, Some, None, get_or, length, sym, subst, inl, inr, arith}
use Rattle.std.specs.Prelude.{slice_get}
use Rattle.std.proofs.lemmas.Option.{slice_get_cases}
use Rattle.qq_base.specs.declared.ids.NodeId.{NodeId}
use Rattle.qq_disk.specs.Facts.{DiskFacts}
use Rattle.qq_raft_protocol.specs.Facts.{In}
use Rattle.qq_cluster_model.specs.Cluster.{Cluster, Setup}
use Rattle.qq_cluster_model.specs.Rules.{is_quiet_at, waits_noticed}
use Rattle.qq_cluster_laws.specs.Linked.{IsReached}
use Rattle.qq_queue.specs.ClusterQueue.{is_up_at}
use Rattle.qq_cluster.specs.Nodes.{IsNodeAt, IsNodeOf, Stands}
use Rattle.qq_cluster.specs.declared.node.Node.{Node}
use Rattle.qq_cluster.specs.declared.nodes.Nodes.{Nodes as Held}
use Rattle.qq_cluster.proofs.Membership.{noticed-told, settled-told}
use Rattle.qq_cluster.proofs.Walks.{in-range}

-- the node of a number
pub record OwnNode {D : Type 0} (facts : DiskFacts D) (setup : Setup) (c : Cluster) (held : Held D)
    (k : ℕ) : Type 0 where
  pub node : Node D
  pub here : slice_get held.nodes.items (k - 1) ≡ Some node
  pub is : IsNodeOf facts setup c k node

module _ {D : Type 0} {facts : DiskFacts D} where
  pub own-node : (setup : Setup) (c : Cluster) (held : Held D) (node : NodeId) → Stands facts setup held c
      → IsNodeAt node held → OwnNode facts setup c held node.0
  own-node setup c held node st is = by (slice_get_cases held.nodes.items (node.0 - 1)).1
    where
      back : (node.0 - 1) + 1 ≡ node.0
      back = let low = is.0 in omega (arith, low)

      by : ((x : Node D) × (node.0 - 1 < length held.nodes.items)
          × (slice_get held.nodes.items (node.0 - 1) ≡ Some x)
          × (get_or held.nodes.items (node.0 - 1) x ≡ x))
          ⊎ ((length held.nodes.items ≤ node.0 - 1) × (slice_get held.nodes.items (node.0 - 1) ≡ None))
          → OwnNode facts setup c held node.0
      by (inl found) = record {
        node = found.0;
        here = found.2;
        is = subst (λ (k : ℕ). IsNodeOf facts setup c k found.0) back (st.nodes (node.0 - 1) found.0 found.2);
      }
      by (inr past_end) =
          let low = is.0 in let high = is.1 in let le = past_end.0 in absurd (omega (arith, low, high, le))

  pub place-here : (setup : Setup) (c : Cluster) (held : Held D) (at : ℕ) → Stands facts setup held c
      → at < length held.queues.items → In (at + 1) setup.places
  place-here setup c held at st lt =
      subst (In (at + 1)) (sym st.set_up.places) (in-range (length held.queues.items) at lt)

  module _ (setup : Setup) (c : Cluster) (held : Held D) (node : NodeId) (at : ℕ) (r : IsReached setup c)
      (st : Stands facts setup held c) (is : IsNodeAt node held) (lt : at < length held.queues.items) where
    pub noticed-told_at : (is_up_at node.0 (c.queue (at + 1)) && waits_noticed node.0 (c.queue (at + 1)))
        ≡ (c.up node.0 && waits_noticed node.0 (c.queue (at + 1)))
    noticed-told_at =
        noticed-told setup c node.0 (at + 1) st.set_up.groups r (own-node setup c held node st is).is.members
        (place-here setup c held at st lt)

    pub settled-told_at : is_quiet_at (c.queue (at + 1)) (λ (j : ℕ). is_up_at j (c.queue (at + 1))) node.0
        ≡ is_quiet_at (c.queue (at + 1)) c.up node.0
    settled-told_at =
        settled-told setup c node.0 (at + 1) st.set_up.groups r (own-node setup c held node st is).is.members
        (place-here setup c held at st lt)
