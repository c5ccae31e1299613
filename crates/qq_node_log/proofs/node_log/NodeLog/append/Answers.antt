use Rattle.std.proofs.Common.{◌≡◌, Bool, true, sym, subst}
use Rattle.std.specs.Prelude.{IfOk}
use Rattle.qq_lots.specs.Lots.{Lot, give_batch}
use Rattle.qq_node_log.specs.declared.node_log.NodeLog.{NodeLog}
use Rattle.qq_node_log.specs.declared.node_log.NodeLog.TheVariants.{Open}
use Rattle.qq_node_log.specs.Steps.{CallKeeps, KeepsDisk, RunsOn}
use Rattle.qq_node_log.proofs.node_log.NodeLog.append.Goals as goal

pub returns-clause-same : goal.returns-clause-same
returns-clause-same g c =
    subst (λ (log : NodeLog _). KeepsDisk g.D.NodeDisk.facts log (Open c.append_open.new.wal)) (sym c.in-Open.is)
    c.append_open.ensures.same

pub returns-clause-ok : goal.returns-clause-ok
returns-clause-ok g c =
    subst (λ (log : NodeLog _). IfOk c.append_open.result (λ (more : Bool). more ≡ true
    → RunsOn g.D.NodeDisk.facts (λ (lot : Lot). give_batch lot c.args.ops.items) log (Open c.append_open.new.wal)))
    (sym c.in-Open.is) c.append_open.ensures.ok

pub returns-clause-moments : goal.returns-clause-moments
returns-clause-moments g c =
    subst (λ (log : NodeLog _). CallKeeps g.D.NodeDisk.facts (λ (lot : Lot). give_batch lot c.args.ops.items) log
    (Open c.append_open.new.wal)) (sym c.in-Open.is) c.append_open.ensures.moments
