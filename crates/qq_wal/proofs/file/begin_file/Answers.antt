use Rattle.std.proofs.Common.{subst, sym, IsTrue}
use Rattle.qq_disk.specs.Disk.{now}
use Rattle.qq_wal.proofs.Steps.{first-may, first-stays, new-behind, new-may, new-stays, new-log, new-shows, new-length, new-others}
use Rattle.qq_disk.specs.Image.{log_of}
use Rattle.qq_wal.proofs.Frames.{append-beside, beside-then, sync-beside}
use Rattle.qq_wal.proofs.Refusing.{failed-at-append, half-at-append, half-at-sync, stays-at-want}
use Rattle.qq_wal.proofs.file.begin_file.Goals as goal

-- ---- the bytes aren't written

pub returns-in-Err-clause-stays : goal.returns-in-Err-clause-stays
returns-in-Err-clause-stays g c = λ told queues before carries goes_on is.
    first-stays queues (c.the_log_has_a_format.ensures queues) c.args.header before carries c.args.bytes.now
    (g.D.NodeDisk.facts.past c.args.disk.now) goes_on is
    (g.D.NodeDisk.facts.past c.append.new.self) (c.append.ensures.moments told)

pub returns-in-Err-clause-beside : goal.returns-in-Err-clause-beside
returns-in-Err-clause-beside g c = λ told.
    append-beside (g.D.NodeDisk.facts.past c.args.disk.now) (g.D.NodeDisk.facts.past c.append.new.self)
    (log_of c.args.header.file) c.args.bytes.now (c.append.ensures.moments told)

pub returns-in-Err-clause-may : goal.returns-in-Err-clause-may
returns-in-Err-clause-may g c = λ told queues before carries goes_on is.
    first-may queues (c.the_log_has_a_format.ensures queues) c.args.header before carries c.args.bytes.now
    (g.D.NodeDisk.facts.past c.args.disk.now) goes_on is
    (g.D.NodeDisk.facts.past c.append.new.self) (c.append.ensures.moments told)

pub returns-in-Err-clause-half : goal.returns-in-Err-clause-half
returns-in-Err-clause-half g c = λ told.
    half-at-append c.args.header.file c.in-Err.fault (now (g.D.NodeDisk.facts.past c.append.new.self))
    c.is_failure.result c.is_failure.ensures

pub returns-in-Err-clause-failed : goal.returns-in-Err-clause-failed
returns-in-Err-clause-failed g c = failed-at-append c.in-Err.fault c.is_failure.result c.is_failure.ensures

pub returns-in-Err-clause-want : goal.returns-in-Err-clause-want
returns-in-Err-clause-want g c = λ told.
    stays-at-want (g.D.NodeDisk.facts.past c.args.disk.now) (g.D.NodeDisk.facts.past c.append.new.self) c.in-Err.fault
    c.is_failure.result c.is_failure.ensures (c.in-Err.ensures.want told)

-- ---- they are written, and synced

pub returns-in-Ok-clause-stays : goal.returns-in-Ok-clause-stays
returns-in-Ok-clause-stays g c = λ told queues before carries goes_on is.
    new-stays queues (c.the_log_has_a_format.ensures queues) c.args.header before carries c.args.bytes.now
    (g.D.NodeDisk.facts.past c.args.disk.now) goes_on is
    (g.D.NodeDisk.facts.past c.append.new.self) (g.D.NodeDisk.facts.past c.sync.new.self)
    (c.append.ensures.moments told) (c.sync.ensures.moments (subst (λ t. IsTrue t) (sym c.append.ensures.told) told))

pub returns-in-Ok-clause-log : goal.returns-in-Ok-clause-log
returns-in-Ok-clause-log g c = λ told queues before carries goes_on is.
    new-log queues (c.the_log_has_a_format.ensures queues) c.args.header before carries c.args.bytes.now
    (g.D.NodeDisk.facts.past c.args.disk.now) goes_on is
    (now (g.D.NodeDisk.facts.past c.append.new.self)) (now (g.D.NodeDisk.facts.past c.sync.new.self))
    (c.in_default.ensures.ok told)
    (c.in-Ok.ensures.ok (subst (λ t. IsTrue t) (sym c.append.ensures.told) told))

pub returns-in-Ok-clause-behind : goal.returns-in-Ok-clause-behind
returns-in-Ok-clause-behind g c = λ told queues before carries goes_on is.
    new-behind queues (c.the_log_has_a_format.ensures queues) c.args.header before carries c.args.bytes.now
    (g.D.NodeDisk.facts.past c.args.disk.now) goes_on is
    (now (g.D.NodeDisk.facts.past c.append.new.self)) (now (g.D.NodeDisk.facts.past c.sync.new.self))
    (c.in_default.ensures.ok told)
    (c.in-Ok.ensures.ok (subst (λ t. IsTrue t) (sym c.append.ensures.told) told))

pub returns-in-Ok-clause-shown : goal.returns-in-Ok-clause-shown
returns-in-Ok-clause-shown g c = λ told queues before carries goes_on is.
    new-shows queues (c.the_log_has_a_format.ensures queues) c.args.header before carries c.args.bytes.now
    (g.D.NodeDisk.facts.past c.args.disk.now) goes_on is
    (now (g.D.NodeDisk.facts.past c.append.new.self)) (now (g.D.NodeDisk.facts.past c.sync.new.self))
    (c.in_default.ensures.ok told)
    (c.in-Ok.ensures.ok (subst (λ t. IsTrue t) (sym c.append.ensures.told) told))

pub returns-in-Ok-clause-length : goal.returns-in-Ok-clause-length
returns-in-Ok-clause-length g c = λ told queues before carries goes_on is.
    new-length queues (c.the_log_has_a_format.ensures queues) c.args.header before carries c.args.bytes.now
    (g.D.NodeDisk.facts.past c.args.disk.now) goes_on is
    (now (g.D.NodeDisk.facts.past c.append.new.self)) (now (g.D.NodeDisk.facts.past c.sync.new.self))
    (c.in_default.ensures.ok told)
    (c.in-Ok.ensures.ok (subst (λ t. IsTrue t) (sym c.append.ensures.told) told))

pub returns-in-Ok-clause-others : goal.returns-in-Ok-clause-others
returns-in-Ok-clause-others g c = λ told queues before carries goes_on is.
    new-others queues (c.the_log_has_a_format.ensures queues) c.args.header before carries c.args.bytes.now
    (g.D.NodeDisk.facts.past c.args.disk.now) goes_on is
    (now (g.D.NodeDisk.facts.past c.append.new.self)) (now (g.D.NodeDisk.facts.past c.sync.new.self))
    (c.in_default.ensures.ok told)
    (c.in-Ok.ensures.ok (subst (λ t. IsTrue t) (sym c.append.ensures.told) told))

pub returns-in-Ok-clause-beside : goal.returns-in-Ok-clause-beside
returns-in-Ok-clause-beside g c = λ told.
    let past = g.D.NodeDisk.facts.past in
    let file = log_of c.args.header.file in
    beside-then (past c.args.disk.now) (past c.append.new.self) (past c.sync.new.self) file
    (append-beside (past c.args.disk.now) (past c.append.new.self) file c.args.bytes.now (c.append.ensures.moments told))
    (sync-beside (past c.append.new.self) (past c.sync.new.self) file
    (c.sync.ensures.moments (subst (λ t. IsTrue t) (sym c.append.ensures.told) told)))

pub returns-in-Ok-clause-may : goal.returns-in-Ok-clause-may
returns-in-Ok-clause-may g c = λ told queues before carries goes_on is.
    new-may queues (c.the_log_has_a_format.ensures queues) c.args.header before carries c.args.bytes.now
    (g.D.NodeDisk.facts.past c.args.disk.now) goes_on is
    (g.D.NodeDisk.facts.past c.append.new.self) (g.D.NodeDisk.facts.past c.sync.new.self)
    (c.append.ensures.moments told) (c.sync.ensures.moments (subst (λ t. IsTrue t) (sym c.append.ensures.told) told))

-- ---- they are written, and not synced

pub returns-in-Err-sync-clause-stays : goal.returns-in-Err-sync-clause-stays
returns-in-Err-sync-clause-stays g c = λ told queues before carries goes_on is.
    new-stays queues (c.the_log_has_a_format.ensures queues) c.args.header before carries c.args.bytes.now
    (g.D.NodeDisk.facts.past c.args.disk.now) goes_on is
    (g.D.NodeDisk.facts.past c.append.new.self) (g.D.NodeDisk.facts.past c.sync.new.self)
    (c.append.ensures.moments told) (c.sync.ensures.moments (subst (λ t. IsTrue t) (sym c.append.ensures.told) told))

pub returns-in-Err-sync-clause-half : goal.returns-in-Err-sync-clause-half
returns-in-Err-sync-clause-half g c = λ told begun.
    half-at-sync c.args.header.file c.in-Err-sync.fault c.args.bytes.now (now (g.D.NodeDisk.facts.past c.args.disk.now))
    (now (g.D.NodeDisk.facts.past c.append.new.self)) (now (g.D.NodeDisk.facts.past c.sync.new.self))
    (c.in_default.ensures.ok told) (c.in-Err-sync.ensures.err (subst (λ t. IsTrue t) (sym c.append.ensures.told) told))

pub returns-in-Err-sync-clause-beside : goal.returns-in-Err-sync-clause-beside
returns-in-Err-sync-clause-beside g c = λ told.
    let past = g.D.NodeDisk.facts.past in
    let file = log_of c.args.header.file in
    beside-then (past c.args.disk.now) (past c.append.new.self) (past c.sync.new.self) file
    (append-beside (past c.args.disk.now) (past c.append.new.self) file c.args.bytes.now (c.append.ensures.moments told))
    (sync-beside (past c.append.new.self) (past c.sync.new.self) file
    (c.sync.ensures.moments (subst (λ t. IsTrue t) (sym c.append.ensures.told) told)))

pub returns-in-Err-sync-clause-may : goal.returns-in-Err-sync-clause-may
returns-in-Err-sync-clause-may g c = λ told queues before carries goes_on is.
    new-may queues (c.the_log_has_a_format.ensures queues) c.args.header before carries c.args.bytes.now
    (g.D.NodeDisk.facts.past c.args.disk.now) goes_on is
    (g.D.NodeDisk.facts.past c.append.new.self) (g.D.NodeDisk.facts.past c.sync.new.self)
    (c.append.ensures.moments told) (c.sync.ensures.moments (subst (λ t. IsTrue t) (sym c.append.ensures.told) told))
