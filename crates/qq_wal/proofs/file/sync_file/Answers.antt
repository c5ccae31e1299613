use Rattle.std.proofs.Common.{ap, ◌∙◌, rules}
use Rattle.std.proofs.lemmas.Result.{on_ok_weaker}
use Rattle.qq_disk.specs.Disk.{Disk, now}
use Rattle.qq_disk.specs.Image.{log_of}
use Rattle.qq_wal_chain.specs.Image.{files_of, shown_logs}
use Rattle.qq_wal_chain.specs.Wal.{wal}
use Rattle.qq_wal_chain.proofs.Calls.{sync-stays}
use Rattle.qq_wal_chain.proofs.Settling.{shown-sync}
use Rattle.qq_wal.specs.Running.{top}
use Rattle.qq_wal.proofs.Steps.{sync-log, sync-may, sync-notices}
use Rattle.qq_wal.proofs.Batches.{clean-notices}
use Rattle.qq_wal.proofs.Frames.{sync-beside}
use Rattle.qq_wal.proofs.file.sync_file.Goals as goal

pub returns-clause-stays : goal.returns-clause-stays
returns-clause-stays g c = λ told queues.
    sync-stays (wal queues) (c.the_log_has_a_format.ensures queues) top (g.D.NodeDisk.facts.past c.args.disk.now)
    (g.D.NodeDisk.facts.past c.sync.new.self) (log_of c.args.header.file) (c.sync.ensures.moments told)

pub returns-clause-log : goal.returns-clause-log
returns-clause-log g c = λ told queues running clean.
    on_ok_weaker c.sync.result
    (λ is. sync-log queues (c.the_log_has_a_format.ensures queues) c.args.header
    (now (g.D.NodeDisk.facts.past c.args.disk.now)) (now (g.D.NodeDisk.facts.past c.sync.new.self)) running is)
    (c.sync.ensures.ok told)

pub returns-clause-shown : goal.returns-clause-shown
returns-clause-shown g c = λ told.
    on_ok_weaker c.sync.result
    (λ is. ap (λ (d : Disk). shown_logs (files_of d)) is
    ∙ shown-sync (now (g.D.NodeDisk.facts.past c.args.disk.now)) (log_of c.args.header.file))
    (c.sync.ensures.ok told)

pub returns-clause-noticed : goal.returns-clause-noticed
returns-clause-noticed g c = λ told queues running clean.
    on_ok_weaker c.sync.result
    (λ is. sync-notices queues (c.the_log_has_a_format.ensures queues) c.args.header
    (now (g.D.NodeDisk.facts.past c.args.disk.now)) (now (g.D.NodeDisk.facts.past c.sync.new.self)) running is)
    (c.sync.ensures.ok told)

pub returns-then-not-dirty-clause-noticed : goal.returns-then-not-dirty-clause-noticed
returns-then-not-dirty-clause-noticed g c = λ told queues running clean.
    clean-notices queues (c.the_log_has_a_format.ensures queues) c.args.header
    (now (g.D.NodeDisk.facts.past c.args.disk.now)) running (clean (search rules))

pub returns-clause-may : goal.returns-clause-may
returns-clause-may g c = λ told queues.
    sync-may queues (c.the_log_has_a_format.ensures queues) (g.D.NodeDisk.facts.past c.args.disk.now)
    (g.D.NodeDisk.facts.past c.sync.new.self) (log_of c.args.header.file) (c.sync.ensures.moments told)

pub returns-clause-beside : goal.returns-clause-beside
returns-clause-beside g c = λ told.
    sync-beside (g.D.NodeDisk.facts.past c.args.disk.now) (g.D.NodeDisk.facts.past c.sync.new.self)
    (log_of c.args.header.file) (c.sync.ensures.moments told)
