use Rattle.qq_base.proofs.Exits.{at_exit}
use Rattle.qq_cluster_model.specs.Cluster.{Setup}
use Rattle.qq_cluster.proofs.Stands.{can-after, gave_up-first, gave_up-second, served-then}
use Rattle.qq_cluster.proofs.Total.{total-fetches}
use Rattle.qq_cluster.proofs.nodes.Nodes.resend_and_fetch.Goals as goal

pub fetch_each-requires : goal.fetch_each-requires
fetch_each-requires g c = can-after c.requires c.in_ok-resend_each.ensures.ok

pub returns-clause-ok : goal.returns-clause-ok
returns-clause-ok g c = served-then c.in_ok-resend_each.ensures.ok c.in_ok-fetch_each.ensures.ok

pub returns-in_err-resend_each-clause-err : goal.returns-in_err-resend_each-clause-err
returns-in_err-resend_each-clause-err g c =
    at_exit _ _ c.from_residual.ensures.1 (gave_up-first (λ (setup : Setup). total-fetches setup c.args.session) c.in_err-resend_each.ensures.err)

pub returns-in_err-fetch_each-clause-err : goal.returns-in_err-fetch_each-clause-err
returns-in_err-fetch_each-clause-err g c =
    at_exit _ _ c.from_residual-in_err-fetch_each.ensures.1 (gave_up-second c.in_ok-resend_each.ensures.ok c.in_err-fetch_each.ensures.err)
