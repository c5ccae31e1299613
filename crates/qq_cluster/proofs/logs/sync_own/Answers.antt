use Rattle.qq_cluster.proofs.Logged.{no-sync, own-sync, synced, synced-spent}
use Rattle.qq_cluster.proofs.logs.sync_own.Goals as goal

pub sync-requires : goal.sync-requires
sync-requires g c = own-sync c.args.node.now c.in-Some.log c.requires c.in-Some.is

pub unreachable-requires : goal.unreachable-requires
unreachable-requires g c = no-sync c.args.node.now c.requires c.in-None.is

pub returns-clause-ok : goal.returns-clause-ok
returns-clause-ok g c =
    synced c.args.node.now c.in-Some.log c.sync.new.self c.sync.result c.in-Some.is c.sync.ensures.same
    c.sync.ensures.later c.sync.ensures.moments c.sync.ensures.ok c.sync.ensures.come c.sync.ensures.failed

pub returns-clause-err : goal.returns-clause-err
returns-clause-err g c =
    synced-spent c.args.node.now c.in-Some.log c.sync.new.self c.sync.result c.in-Some.is c.sync.ensures.same
    c.sync.ensures.later c.sync.ensures.moments c.sync.ensures.spent
    (λ tell. c.sync.ensures.shown tell)
