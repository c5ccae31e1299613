-- Calls that change the disk of one node, whether it is up or down, by events of that node's log.
use Rattle.qq_cluster_model.specs.Outcome.{Outcome}
use Rattle.qq_cluster.proofs.Outcomes.{outcome_after}
use Rattle.std.proofs.Common.{◌≡◌, ◌≢◌, ◌<◌, ◌≤◌, ◌-◌, ℕ, true, List, Some, sym, ap, ◌∙◌, subst, arith}
use Rattle.std.specs.Prelude.{IsTrue, slice_get, slice_set}
use Rattle.qq_base.specs.Causes.{Rose}
use Rattle.qq_disk.specs.Disk.{Disk, now}
use Rattle.qq_disk.specs.Facts.{DiskFacts}
use Rattle.qq_lots.specs.Lots.{ids_of}
use Rattle.qq_cluster_model.specs.Cluster.{Cluster, ClusterEvent, Setup, cluster_after}
use Rattle.qq_cluster_laws.specs.Linked.{IsLinked, lot_of}
use Rattle.qq_cluster_laws.specs.Serves.{GivesUp, Seen, Serves, fails_at, seen_of}
use Rattle.qq_cluster_laws.specs.Traced.{IsBrokenAt, IsTracedAt}
use Rattle.qq_node_log.specs.Log.{disk_in}
use Rattle.qq_node_log.specs.Steps.{SameDisk}
use Rattle.qq_node_log.specs.declared.node_log.NodeLog.{NodeLog}
use Rattle.qq_cluster.specs.Nodes.{Stands, seen}
use Rattle.qq_cluster.specs.declared.node.Node.{Node}
use Rattle.qq_cluster.specs.declared.nodes.Nodes.{Nodes as Held}
use Rattle.qq_cluster.proofs.Owned.{AllOwn, gives_up-own, serves-own}
use Rattle.qq_cluster.proofs.OwnStands.{seen-others, seen-own, set-here}

module _ {D : Type 0} {facts : DiskFacts D} (setup : Setup) (c : Cluster) (k : ℕ) (events : List ClusterEvent)
    (old new : Held D) (x z : Node D) (before behind : NodeLog D) (own : AllOwn k events)
    (low : 0 < k) (here : slice_get old.nodes.items (k - 1) ≡ Some x)
    (nodes : new.nodes.items ≡ slice_set old.nodes.items (k - 1) z) (was : x.log ≡ Some before)
    (log : z.log ≡ Some behind)
    (disk : SameDisk facts (ids_of (lot_of setup k)) (disk_in before) (disk_in behind)) where
  pub seen-before : seen facts old k ≡ seen_of facts (disk_in before)
  seen-before = seen-own facts old k x before low here was

  seen-behind : seen facts new k ≡ seen_of facts (disk_in behind)
  seen-behind =
      seen-own facts new k z behind low (ap (λ (l : List (Node D)). slice_get l (k - 1)) nodes
      ∙ set-here k old.nodes.items x z here) log

  others : (j : ℕ) → (j ≢ k) → seen facts new j ≡ seen facts old j
  others = seen-others facts k old new z low nodes

  told : (seen facts new k).tells ≡ (seen facts old k).tells
  told =
      ap (λ (s : Seen). s.tells) seen-behind ∙ disk.told ∙ sym (ap (λ (s : Seen). s.tells) seen-before)

  rises : (seen facts old k).faults ≤ (seen facts new k).faults
  rises =
      let first = ap (λ (s : Seen). s.faults) seen-before in
      let last = ap (λ (s : Seen). s.faults) seen-behind in
      let more = disk.later in
      omega (arith, first, last, more)

  moved : (Traced : List Disk → List Disk → Type 0)
      → (IsTrue (facts.tells (disk_in before)) → IsLinked setup c k (now (facts.past (disk_in before)))
      → Traced (facts.past (disk_in before)) (facts.past (disk_in behind)))
      → IsTrue (seen facts old k).tells → IsLinked setup c k (now (seen facts old k).past)
      → Traced (seen facts old k).past (seen facts new k).past
  moved Traced traced =
      subst (λ (a : Seen). IsTrue a.tells → IsLinked setup c k (now a.past)
      → Traced a.past (seen facts new k).past) (sym seen-before)
      (subst (λ (b : Seen). IsTrue (facts.tells (disk_in before))
      → IsLinked setup c k (now (facts.past (disk_in before))) → Traced (facts.past (disk_in before))
      b.past) (sym seen-behind) traced)

  -- they happened
  pub disk-serves : (Allowed : List ClusterEvent → Type 0) (first last : Outcome)
      → (fails_at k events ≡ true → Rose (facts.faults (disk_in before)) (facts.faults (disk_in behind)))
      → Allowed events
      → Stands facts setup new (cluster_after c events) → last ≡ outcome_after setup c events first
      → (IsTrue (facts.tells (disk_in before)) → IsLinked setup c k (now (facts.past (disk_in before)))
      → IsTracedAt setup c k events (facts.past (disk_in before)) (facts.past (disk_in behind)))
      → Serves setup c Allowed (Stands facts setup new) (seen facts old) (seen facts new) first last
  disk-serves Allowed first last cause allowed stands says traced =
      serves-own setup c k events (seen facts old) (seen facts new) own others told rises Allowed
      (Stands facts setup new) first last
      (subst (λ (a : Seen). fails_at k events ≡ true → Rose a.faults (seen facts new k).faults) (sym seen-before)
      (subst (λ (b : Seen). fails_at k events ≡ true → Rose (facts.faults (disk_in before)) b.faults) (sym seen-behind)
      cause))
      allowed stands says
      (λ node. moved (λ (a b : List Disk). IsTracedAt setup c k events a b) traced)

  -- or the call is given up
  pub disk-gives_up : (IsTrue (facts.tells (disk_in before)) → IsLinked setup c k (now (facts.past (disk_in before)))
      → IsBrokenAt setup c k events (facts.past (disk_in before)) (facts.past (disk_in behind)))
      → GivesUp setup c (seen facts old) (seen facts new)
  disk-gives_up broken =
      gives_up-own setup c k events (seen facts old) (seen facts new) own others told rises
      (λ node. moved (λ (a b : List Disk). IsBrokenAt setup c k events a b) broken)
