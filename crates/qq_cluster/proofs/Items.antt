-- What is read of a queue and of a node.
use Rattle.std.proofs.Common.{◌≡◌, ◌<◌, ◌+◌, ◌-◌, ℕ, List, [], ◌∷◌, Some, length, get_or, refl, sym, ap, ◌∙◌, arith}
use Rattle.std.specs.Prelude.{All, slice_get}
use Rattle.std.proofs.lemmas.List.Elements.{All-from_all_within}
use Rattle.std.proofs.lemmas.Option.{slice_get-get_or}
use Rattle.qq_base.specs.declared.ids.NodeId.{NodeId}
use Rattle.qq_disk.specs.Facts.{DiskFacts}
use Rattle.qq_cluster_model.specs.Cluster.{Cluster, Setup}
use Rattle.qq_queue.specs.Members.{AreSound}
use Rattle.qq_queue.specs.declared.cluster_queue.ClusterQueue.{ClusterQueue}
use Rattle.qq_cluster.specs.Nodes.{CanServe, IsNodeAt, Stands}
use Rattle.qq_cluster.specs.declared.node.Node.{Node}
use Rattle.qq_cluster.specs.declared.nodes.Nodes.{Nodes as Held}

-- an item that was read by its index
pub item-here : {A : Type 0} (xs : List A) (at : ℕ) (x : A) → at < length xs → x ≡ get_or xs at x
    → slice_get xs at ≡ Some x
item-here xs at x lt is = slice_get-get_or xs at x lt ∙ ap Some (sym is)

pub node-here : {D : Type 0} (held : Held D) (x : Node D) (node : NodeId) → IsNodeAt node held
    → x ≡ get_or held.nodes.items (node.0 - 1) x → slice_get held.nodes.items (node.0 - 1) ≡ Some x
node-here held x node is here =
    item-here held.nodes.items (node.0 - 1) x (let low = is.0 in let high = is.1 in omega (arith, low, high)) here

module _ {D : Type 0} {facts : DiskFacts D} where
  pub node-up : {setup : Setup} {held : Held D} {c : Cluster} {x : Node D} (node : NodeId)
      → Stands facts setup held c → IsNodeAt node held → slice_get held.nodes.items (node.0 - 1) ≡ Some x
      → x.up ≡ c.up node.0
  node-up {c = c} {x = x} node st is here =
      (st.nodes (node.0 - 1) x here).up_is
      ∙ ap c.up (let low = is.0 in let e : (node.0 - 1) + 1 ≡ node.0 = omega (arith, low) in e)

  pub queues-sound : {held : Held D} → CanServe facts held
      → All (λ (d : ClusterQueue). AreSound d.group) held.queues.items
  queues-sound {held = held} can =
      All-from_all_within (λ (d : ClusterQueue). AreSound d.group) held.queues.items
      (λ k d low high. (can.3.queues k (get_or held.queues.items k d) (slice_get-get_or held.queues.items k d high)).sound)

pub is-empty : {A : Type 0} (xs : List A) → length xs ≡ 0 → xs ≡ []
is-empty [] is = refl
is-empty (x ∷ xs) is = absurd (omega (arith, is))

pub not-empty : {A : Type 0} (xs : List A) → 0 < length xs → xs ≡ [] → ⊥
not-empty xs lt is = absurd (let e : length xs ≡ 0 = ap length is in omega (arith, lt, e))

pub nodes-as : {D : Type 0} (a b : Held D) → a ≡ b → a.nodes ≡ b.nodes
nodes-as {D = D} a b is = ap (λ (h : Held D). h.nodes) is
