use Rattle.std.proofs.Common.{subst}
use Rattle.qq_node_log.specs.declared.syncing.SyncOutcome.{SyncOutcome}
use Rattle.qq_node_log.specs.Syncing.{Comes, Leaves}
use Rattle.qq_wal.specs.Wal.{is_full}
use Rattle.qq_lots.specs.Lots.{ids_of}
use Rattle.qq_node_log.proofs.Ending.{last-on}
use Rattle.qq_node_log.proofs.Same.{same-disk, same-later}
use Rattle.qq_node_log.proofs.Stepping.{sync-keeps, sync-runs}
use Rattle.qq_node_log.proofs.node_log.sync_open.Goals as goal

pub returns-in-Ok-clause-ok : goal.returns-in-Ok-clause-ok
returns-in-Ok-clause-ok g c = λ is.
    let past = g.D.NodeDisk.facts.past in
    sync-runs g.D.NodeDisk.facts c.args.wal.now c.sync_log.new.wal c.sync_log.ensures.same (is_full c.args.wal.now)
    (subst (λ (o : SyncOutcome). Leaves o c.args.wal.now c.sync_log.new.wal) is c.in-Ok.ensures.leaves)
    (λ tell. subst (λ (o : SyncOutcome). Comes o c.args.wal.now.queues.items (past c.args.wal.now.disk)
    (past c.sync_log.new.wal.disk)) is (c.in-Ok.ensures.come tell))

pub returns-in-Ok-clause-moments : goal.returns-in-Ok-clause-moments
returns-in-Ok-clause-moments g c =
    sync-keeps g.D.NodeDisk.facts c.args.wal.now c.sync_log.new.wal c.sync_log.ensures.same
    (λ tell. c.sync_log.ensures.stays tell)

pub returns-in-Err-clause-moments : goal.returns-in-Err-clause-moments
returns-in-Err-clause-moments g c =
    sync-keeps g.D.NodeDisk.facts c.args.wal.now c.sync_log.new.wal c.sync_log.ensures.same
    (λ tell. c.sync_log.ensures.stays tell)

pub returns-in-Ok-clause-same : goal.returns-in-Ok-clause-same
returns-in-Ok-clause-same g c = λ lot parts run.
    same-disk g.D.NodeDisk.facts (ids_of lot) c.args.wal.now c.sync_log.new.wal c.sync_log.ensures.same run.queues_are

pub returns-in-Err-clause-same : goal.returns-in-Err-clause-same
returns-in-Err-clause-same g c = λ lot parts run.
    same-disk g.D.NodeDisk.facts (ids_of lot) c.args.wal.now c.sync_log.new.wal c.sync_log.ensures.same run.queues_are

pub returns-in-Ok-clause-later : goal.returns-in-Ok-clause-later
returns-in-Ok-clause-later g c =
    same-later g.D.NodeDisk.facts c.args.wal.now c.sync_log.new.wal c.sync_log.ensures.same

pub returns-in-Err-clause-later : goal.returns-in-Err-clause-later
returns-in-Err-clause-later g c =
    same-later g.D.NodeDisk.facts c.args.wal.now c.sync_log.new.wal c.sync_log.ensures.same

pub returns-in-Err-clause-shown : goal.returns-in-Err-clause-shown
returns-in-Err-clause-shown g c = λ tell.
    last-on g.D.NodeDisk.facts c.args.wal.now c.in-Err.memory c.requires.2.sound tell c.requires.2.newest
    c.requires.2.going c.in-Err.ensures.cause
