use Rattle.qq_wal_chain.proofs.Calls.{sync-stays}
use Rattle.qq_wal_chain.specs.Wal.{wal}
use Rattle.qq_wal.specs.Running.{top}
use Rattle.qq_wal.proofs.Steps.{sync-may}
use Rattle.qq_recover.proofs.Frames.{sync-only}
use Rattle.qq_recover.proofs.settle.sync_one.Goals as goal

pub returns-clause-stays : goal.returns-clause-stays
returns-clause-stays g c = λ told queues.
    sync-stays (wal queues) (c.the_log_has_a_format.ensures queues) top (g.D.NodeDisk.facts.past c.args.disk.now)
    (g.D.NodeDisk.facts.past c.sync.new.self) c.args.file (c.sync.ensures.moments told)

pub returns-clause-only : goal.returns-clause-only
returns-clause-only g c = λ told.
    sync-only (g.D.NodeDisk.facts.past c.args.disk.now) (g.D.NodeDisk.facts.past c.sync.new.self) c.args.file
    (c.sync.ensures.moments told)

pub returns-clause-may : goal.returns-clause-may
returns-clause-may g c = λ told queues.
    sync-may queues (c.the_log_has_a_format.ensures queues) (g.D.NodeDisk.facts.past c.args.disk.now)
    (g.D.NodeDisk.facts.past c.sync.new.self) c.args.file (c.sync.ensures.moments told)
