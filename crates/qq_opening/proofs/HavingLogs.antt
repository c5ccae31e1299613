-- While nodes are opened each has its log.
use Rattle.std.proofs.Common.{◌≡◌, ◌⊎◌, ◌<◌, ◌≤◌, ℕ, List, Some, sym, ◌∙◌, inl, inr}
use Rattle.std.proofs.lemmas.Bool.{cases_lt}
use Rattle.qq_disk.specs.Facts.{DiskFacts}
use Rattle.qq_node_log.specs.declared.node_log.NodeLog.{NodeLog}
use Rattle.qq_node_log.specs.declared.node_log.NodeLog.TheVariants.{Closed}
use Rattle.qq_route.specs.declared.queue_row.QueueRow.{QueueRow}
use Rattle.qq_cluster.specs.Nodes.{EachHasLog}
use Rattle.qq_cluster.specs.Setting.{AreNew}
use Rattle.qq_cluster.specs.declared.nodes.Nodes.{Nodes as Held}
use Rattle.qq_cluster.proofs.Begun.{item-at}
use Rattle.qq_opening.specs.Opened.{AreOpened}

new-logs : {D : Type 0} {facts : DiskFacts D} (rows : List QueueRow) (old : Held D)
    → AreNew facts rows old → EachHasLog old.nodes.items
new-logs rows old new at node here =
    let disk = item-at new.disks old.nodes.items at node new.nodes.count here in
    (Closed disk.0, (new.nodes.each at disk.0 node disk.1 here).log_is)

module _ {D : Type 0} {facts : DiskFacts D} (rows : List QueueRow) (old : Held D) (new : AreNew facts rows old) where
  pub opened-logs : (at : ℕ) (held : Held D) → AreOpened facts rows at old held → EachHasLog held.nodes.items
  opened-logs at held o i node here = by (cases_lt i at)
    where
      by : (i < at) ⊎ (at ≤ i) → (own : NodeLog D) × (node.log ≡ Some own)
      by (inl first) = (o.opened i node first here).has_log
      by (inr later) = new-logs rows old new i node (sym (o.left i later) ∙ here)
