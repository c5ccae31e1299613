use Rattle.qq_base.proofs.Exits.{at_exit}
use Rattle.qq_cluster.proofs.Stands.{can-after}
use Rattle.qq_opening.proofs.Opened.{opens-served, pump-gave_up, ticks-gave_up}
use Rattle.qq_opening.proofs.Reopened.{reopens, reopens-gave_up, reopens-refuses}
use Rattle.qq_opening.proofs.reopening.reopen.Goals as goal

pub returns-in_err-restart_each-clause-err : goal.returns-in_err-restart_each-clause-err
returns-in_err-restart_each-clause-err g c =
    at_exit _ _ c.from_residual.ensures.1 (reopens-refuses c.in_err-restart_each.ensures.err)

pub has_up-some-requires : goal.has_up-some-requires
has_up-some-requires g c = can-after c.requires c.in_ok-restart_each.ensures.ok

pub tick_each-requires : goal.tick_each-requires
tick_each-requires g c = can-after c.requires c.in_ok-restart_each.ensures.ok

pub returns-in-Err-clause-err : goal.returns-in-Err-clause-err
returns-in-Err-clause-err g c =
    reopens-gave_up c.in_ok-restart_each.ensures.ok (ticks-gave_up c.in-Err.ensures.err)

pub pump-requires : goal.pump-requires
pump-requires g c = can-after (can-after c.requires c.in_ok-restart_each.ensures.ok) c.in_default.ensures.ok

pub returns-in-Err-pump-clause-err : goal.returns-in-Err-pump-clause-err
returns-in-Err-pump-clause-err g c =
    reopens-gave_up c.in_ok-restart_each.ensures.ok (pump-gave_up c.in_default.ensures.ok c.in-Err-pump.ensures.err)

pub returns-clause-ok : goal.returns-clause-ok
returns-clause-ok g c =
    reopens c.has_up-some.result c.in_ok-restart_each.ensures.ok c.has_up-some.ensures
    (opens-served c.in_default.ensures.ok c.in_default-pump.ensures.ok)
