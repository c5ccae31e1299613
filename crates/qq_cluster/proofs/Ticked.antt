-- Time passes at queues' first members.
use Rattle.std.proofs.Common.{◌≡◌, ◌+◌, ℕ, List, [], ◌∷◌, Some, None, refl, sym, ap, ◌∙◌, subst}
use Rattle.std.specs.Prelude.{slice_get}
use Rattle.qq_base.specs.declared.ids.NodeId.{NodeId}
use Rattle.qq_base.specs.declared.memory.Memory.{Memory}
use Rattle.qq_disk.specs.Facts.{DiskFacts}
use Rattle.qq_raft_model.specs.Group.{Group}
use Rattle.qq_cluster_model.specs.Cluster.{At, Cluster, ClusterEvent, Setup, members}
use Rattle.qq_cluster_model.specs.Queue.{Ticks}
use Rattle.qq_cluster_model.specs.Rules.{Is, IsFirstTick, tick_at}
use Rattle.qq_cluster_laws.specs.Linked.{IsReached}
use Rattle.qq_cluster_laws.proofs.Reached.{group-made, made}
use Rattle.qq_cluster_laws.proofs.Seats.{nodes-same}
use Rattle.qq_queue.specs.declared.cluster_queue.ClusterQueue.{ClusterQueue}
use Rattle.qq_cluster_model.specs.Outcome.{Outcome}
use Rattle.qq_cluster.specs.Nodes.{GaveUp, Served, Stands}
use Rattle.qq_cluster.specs.declared.nodes.Nodes.{Nodes as Held}
use Rattle.qq_cluster.proofs.Stands.{gave_up-weaker, served-nothing, served-weaker}
use Rattle.qq_cluster.proofs.Total.{Total, total-is, total-nothing}

tick-some : (place : ℕ) (nodes : List NodeId) (node : NodeId) (c : Cluster) (events : List ClusterEvent)
    → slice_get nodes 0 ≡ Some node → Is (At place (Ticks node.0)) c events → tick_at place nodes c events
tick-some place [] node c events is allowed = absurd cc
tick-some place (n ∷ nodes) node c events is allowed =
    let same : node ≡ n = cc in
    subst (λ (m : NodeId). Is (At place (Ticks m.0)) c events) same allowed

tick-none : (place : ℕ) (nodes : List NodeId) (c : Cluster) → slice_get nodes 0 ≡ None → tick_at place nodes c []
tick-none place [] c is = refl
tick-none place (n ∷ nodes) c is = absurd cc

total-tick_at : (place : ℕ) (nodes : List NodeId) → Total (tick_at place nodes)
total-tick_at place [] = total-nothing
total-tick_at place (n ∷ nodes) = total-is (At place (Ticks n.0))

pub total-first_tick : (setup : Setup) (place : ℕ) → Total (IsFirstTick setup place)
total-first_tick setup place = total-tick_at place (members setup place)

members-are : {D : Type 0} {facts : DiskFacts D} (setup : Setup) (c : Cluster) (held : Held D) (at : ℕ)
    (x : ClusterQueue) → IsReached setup c
    → Stands facts setup held c → slice_get held.queues.items at ≡ Some x → x.group.nodes.items ≡ members setup (at + 1)
members-are setup c held at x r st here =
    sym (st.queues at x here).stands.group.represents.nodes
    ∙ ap (λ (g : Group). g.nodes) (group-made setup c r (at + 1))
    ∙ nodes-same (made setup c r (at + 1)) (setup.group (at + 1))

module _ {D : Type 0} {facts : DiskFacts D} where
  -- time passes at a queue's first member, where it has one
  pub ticks-none : (at : ℕ) (held : Held D) (x : ClusterQueue) (outcome : Outcome)
      → slice_get held.queues.items at ≡ Some x → slice_get x.group.nodes.items 0 ≡ None
      → Served facts (λ (setup : Setup). IsFirstTick setup (at + 1)) held held outcome outcome
  ticks-none at held x outcome here none =
      served-nothing held outcome
      (λ setup c r st. tick-none (at + 1) (members setup (at + 1)) c
      (ap (λ (l : List NodeId). slice_get l 0) (sym (members-are setup c held at x r st here)) ∙ none))

  pub ticks : (at : ℕ) (node : NodeId) (x : ClusterQueue) {old new : Held D} {before later : Outcome}
      → slice_get old.queues.items at ≡ Some x → slice_get x.group.nodes.items 0 ≡ Some node
      → Served facts (λ setup. Is (At (at + 1) (Ticks node.0))) old new before later
      → Served facts (λ (setup : Setup). IsFirstTick setup (at + 1)) old new before later
  ticks at node x {old = old} here first served =
      served-weaker served
      (λ setup c events r st allowed. tick-some (at + 1) (members setup (at + 1)) node c events
      (ap (λ (l : List NodeId). slice_get l 0) (sym (members-are setup c old at x r st here)) ∙ first) allowed)

  pub ticks-gave_up : (at : ℕ) (node : NodeId) (x : ClusterQueue) {old new : Held D} {memory : Memory}
      → slice_get old.queues.items at ≡ Some x → slice_get x.group.nodes.items 0 ≡ Some node
      → GaveUp facts (λ setup. Is (At (at + 1) (Ticks node.0))) old new memory
      → GaveUp facts (λ (setup : Setup). IsFirstTick setup (at + 1)) old new memory
  ticks-gave_up at node x {old = old} here first given =
      gave_up-weaker
      (λ setup c events r st allowed. tick-some (at + 1) (members setup (at + 1)) node c events
      (ap (λ (l : List NodeId). slice_get l 0) (sym (members-are setup c old at x r st here)) ∙ first) allowed) given
