use Rattle.qq_base.proofs.Exits.{at_exit}
use Rattle.qq_cluster.proofs.Pumping.{node-after}
use Rattle.qq_cluster_model.specs.Cluster.{Setup}
use Rattle.qq_cluster_model.specs.Rules.{ForEach, IsNotice, IsSync}
use Rattle.qq_cluster.proofs.Stands.{can-after, gave_up-first, gave_up-second, served-then}
use Rattle.qq_cluster.proofs.Total.{total-notices, total-sync, total-then}
use Rattle.qq_cluster.proofs.nodes.Nodes.node_round.Goals as goal

pub sync_up-requires-clause-serve : goal.sync_up-requires-clause-serve
sync_up-requires-clause-serve g c = can-after c.requires.serve c.in_ok-write_up.ensures.ok

pub sync_up-requires-clause-node : goal.sync_up-requires-clause-node
sync_up-requires-clause-node g c = node-after c.args.node c.requires.serve c.in_ok-write_up.ensures.ok c.requires.node

pub notice_each-requires-clause-serve : goal.notice_each-requires-clause-serve
notice_each-requires-clause-serve g c =
    can-after c.requires.serve (served-then c.in_ok-write_up.ensures.ok c.in_ok-sync_up.ensures.ok)

pub notice_each-requires-clause-node : goal.notice_each-requires-clause-node
notice_each-requires-clause-node g c =
    node-after c.args.node c.requires.serve (served-then c.in_ok-write_up.ensures.ok c.in_ok-sync_up.ensures.ok)
    c.requires.node

pub returns-clause-ok : goal.returns-clause-ok
returns-clause-ok g c =
    served-then c.in_ok-write_up.ensures.ok
    (served-then c.in_ok-sync_up.ensures.ok c.in_ok-notice_each.ensures.ok)

pub returns-in_err-write_up-clause-err : goal.returns-in_err-write_up-clause-err
returns-in_err-write_up-clause-err g c =
    at_exit _ _ c.from_residual.ensures.1 (gave_up-first
    (λ (setup : Setup). total-then (IsSync setup c.args.node.0) (ForEach setup.places (IsNotice c.args.node.0))
    (total-sync setup c.args.node.0) (total-notices setup c.args.node.0)) c.in_err-write_up.ensures.err)

pub returns-in_err-sync_up-clause-err : goal.returns-in_err-sync_up-clause-err
returns-in_err-sync_up-clause-err g c =
    at_exit _ _ c.from_residual-in_err-sync_up.ensures.1 (gave_up-second c.in_ok-write_up.ensures.ok
    (gave_up-first (λ (setup : Setup). total-notices setup c.args.node.0) c.in_err-sync_up.ensures.err))

pub returns-in_err-notice_each-clause-err : goal.returns-in_err-notice_each-clause-err
returns-in_err-notice_each-clause-err g c =
    at_exit _ _ c.from_residual-in_err-notice_each.ensures.1 (gave_up-second c.in_ok-write_up.ensures.ok
    (gave_up-second c.in_ok-sync_up.ensures.ok c.in_err-notice_each.ensures.err))
