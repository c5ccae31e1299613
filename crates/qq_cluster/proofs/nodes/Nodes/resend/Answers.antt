use Rattle.qq_base.proofs.Exits.{at_exit}
use Rattle.qq_cluster.proofs.Stands.{can-after, gave_up-first, gave_up-second, served-then}
use Rattle.qq_cluster.proofs.Total.{total-pumped}
use Rattle.qq_cluster.proofs.nodes.Nodes.resend.Goals as goal

pub pumped-requires : goal.pumped-requires
pumped-requires g c = can-after c.requires c.in_ok-resend_or_tell.ensures.ok

pub returns-clause-ok : goal.returns-clause-ok
returns-clause-ok g c = served-then c.in_ok-resend_or_tell.ensures.ok c.in_ok-pumped.ensures.ok

pub returns-in_err-resend_or_tell-clause-err : goal.returns-in_err-resend_or_tell-clause-err
returns-in_err-resend_or_tell-clause-err g c =
    at_exit _ _ c.from_residual.ensures.1 (gave_up-first total-pumped c.in_err-resend_or_tell.ensures.err)

pub returns-in_err-pumped-clause-err : goal.returns-in_err-pumped-clause-err
returns-in_err-pumped-clause-err g c =
    at_exit _ _ c.from_residual-in_err-pumped.ensures.1 (gave_up-second c.in_ok-resend_or_tell.ensures.ok c.in_err-pumped.ensures.err)
