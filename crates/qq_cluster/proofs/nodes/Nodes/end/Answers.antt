use Rattle.qq_base.proofs.Exits.{at_exit}
use Rattle.qq_cluster_model.specs.Cluster.{Setup}
use Rattle.qq_cluster.proofs.Stands.{can-after, gave_up-first, gave_up-second, served-then}
use Rattle.qq_cluster.proofs.Total.{total-downs, total-pumped}
use Rattle.qq_cluster.proofs.nodes.Nodes.end.Goals as goal

pub down_each-requires-clause-serve : goal.down_each-requires-clause-serve
down_each-requires-clause-serve g c = can-after c.requires.serve (c.in_ok-mark_ended.ensures.ok c.args.told.now)

pub pumped-requires : goal.pumped-requires
pumped-requires g c =
    can-after c.requires.serve
    (served-then (c.in_ok-mark_ended.ensures.ok c.args.told.now) c.in_ok-down_each.ensures.ok)

pub returns-clause-ok : goal.returns-clause-ok
returns-clause-ok g c =
    served-then (served-then (c.in_ok-mark_ended.ensures.ok c.args.told.now) c.in_ok-down_each.ensures.ok)
    c.in_ok-pumped.ensures.ok

pub returns-in_err-mark_ended-clause-err : goal.returns-in_err-mark_ended-clause-err
returns-in_err-mark_ended-clause-err g c =
    at_exit _ _ c.from_residual.ensures.1 (gave_up-first total-pumped
    (gave_up-first (λ (setup : Setup). total-downs setup c.args.session) c.in_err-mark_ended.ensures.err))

pub returns-in_err-down_each-clause-err : goal.returns-in_err-down_each-clause-err
returns-in_err-down_each-clause-err g c =
    at_exit _ _ c.from_residual-in_err-down_each.ensures.1 (gave_up-first total-pumped
    (gave_up-second (c.in_ok-mark_ended.ensures.ok c.args.told.now) c.in_err-down_each.ensures.err))

pub returns-in_err-pumped-clause-err : goal.returns-in_err-pumped-clause-err
returns-in_err-pumped-clause-err g c =
    at_exit _ _ c.from_residual-in_err-pumped.ensures.1 (gave_up-second (served-then (c.in_ok-mark_ended.ensures.ok c.args.told.now) c.in_ok-down_each.ensures.ok)
    c.in_err-pumped.ensures.err)
