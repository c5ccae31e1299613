use Rattle.qq_base.proofs.Exits.{at_exit}
use Rattle.qq_cluster.proofs.Stands.{can-after, gave_up-first, gave_up-second, served-same, served-then}
use Rattle.qq_cluster.proofs.Total.{total-empties}
use Rattle.qq_cluster.proofs.nodes.Nodes.round.Goals as goal

pub empty_each-requires : goal.empty_each-requires
empty_each-requires g c = can-after c.requires c.in_ok-round_each.ensures.ok

pub drop_quiet-requires : goal.drop_quiet-requires
drop_quiet-requires g c =
    can-after c.requires (served-then c.in_ok-round_each.ensures.ok c.in_ok-empty_each.ensures.ok)

pub returns-clause-ok : goal.returns-clause-ok
returns-clause-ok g c =
    served-same (served-then c.in_ok-round_each.ensures.ok c.in_ok-empty_each.ensures.ok)
    (c.drop_quiet.ensures c.empty_each.new.told)

pub returns-in_err-round_each-clause-err : goal.returns-in_err-round_each-clause-err
returns-in_err-round_each-clause-err g c =
    at_exit _ _ c.from_residual.ensures.1 (gave_up-first total-empties c.in_err-round_each.ensures.err)

pub returns-in_err-empty_each-clause-err : goal.returns-in_err-empty_each-clause-err
returns-in_err-empty_each-clause-err g c =
    at_exit _ _ c.from_residual-in_err-empty_each.ensures.1 (gave_up-second c.in_ok-round_each.ensures.ok c.in_err-empty_each.ensures.err)
