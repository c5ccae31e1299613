use Rattle.std.proofs.Common.{sym, subst}
use Rattle.qq_lots.specs.Lots.{Lot, Parts}
use Rattle.qq_node_log.specs.declared.node_log.NodeLog.{NodeLog}
use Rattle.qq_node_log.specs.declared.node_log.NodeLog.TheVariants.{Open}
use Rattle.qq_node_log.specs.Steps.{CallKeeps, KeepsDisk}
use Rattle.qq_node_log.proofs.node_log.NodeLog.sync.Goals as goal

pub returns-clause-same : goal.returns-clause-same
returns-clause-same g c =
    subst (λ (log : NodeLog _). KeepsDisk g.D.NodeDisk.facts log (Open c.sync_open.new.wal)) (sym c.in-Open.is)
    c.sync_open.ensures.same

pub returns-clause-moments : goal.returns-clause-moments
returns-clause-moments g c =
    subst (λ (log : NodeLog _). CallKeeps g.D.NodeDisk.facts (λ (lot : Lot) (parts : Parts). parts) log
    (Open c.sync_open.new.wal)) (sym c.in-Open.is) c.sync_open.ensures.moments
