use Rattle.std.proofs.lemmas.Result.{on_ok_weaker}
use Rattle.qq_disk.specs.Disk.{now}
use Rattle.qq_wal.proofs.Steps.{append-may, append-stays, append-log, append-shows, append-kept, append-length, append-others}
use Rattle.qq_disk.specs.Image.{log_of}
use Rattle.qq_wal.proofs.Frames.{append-beside}
use Rattle.qq_wal.proofs.file.append_file.Goals as goal

pub returns-clause-stays : goal.returns-clause-stays
returns-clause-stays g c = λ told queues batch running b may.
    append-stays queues (c.the_log_has_a_format.ensures queues) c.args.header batch c.args.bytes.now b
    (g.D.NodeDisk.facts.past c.args.disk.now) running may (g.D.NodeDisk.facts.past c.append.new.self)
    (c.append.ensures.moments told)

pub returns-clause-log : goal.returns-clause-log
returns-clause-log g c = λ told queues batch running b.
    on_ok_weaker c.append.result
    (λ is. append-log queues (c.the_log_has_a_format.ensures queues) c.args.header batch c.args.bytes.now b
    (g.D.NodeDisk.facts.past c.args.disk.now) running (now (g.D.NodeDisk.facts.past c.append.new.self)) is)
    (c.append.ensures.ok told)

pub returns-clause-shown : goal.returns-clause-shown
returns-clause-shown g c = λ told queues batch running b.
    on_ok_weaker c.append.result
    (λ is. append-shows queues (c.the_log_has_a_format.ensures queues) c.args.header batch c.args.bytes.now b
    (g.D.NodeDisk.facts.past c.args.disk.now) running (now (g.D.NodeDisk.facts.past c.append.new.self)) is)
    (c.append.ensures.ok told)

pub returns-clause-length : goal.returns-clause-length
returns-clause-length g c = λ told queues running.
    on_ok_weaker c.append.result
    (λ is. append-length queues (c.the_log_has_a_format.ensures queues) c.args.header c.args.bytes.now
    (now (g.D.NodeDisk.facts.past c.args.disk.now)) (now (g.D.NodeDisk.facts.past c.append.new.self)) running is)
    (c.append.ensures.ok told)

pub returns-clause-others : goal.returns-clause-others
returns-clause-others g c = λ told.
    on_ok_weaker c.append.result
    (λ is. append-others c.args.header.file c.args.bytes.now (now (g.D.NodeDisk.facts.past c.args.disk.now))
    (now (g.D.NodeDisk.facts.past c.append.new.self)) is) (c.append.ensures.ok told)

pub returns-clause-may : goal.returns-clause-may
returns-clause-may g c = λ told queues running.
    append-may queues (c.the_log_has_a_format.ensures queues) c.args.header c.args.bytes.now
    (g.D.NodeDisk.facts.past c.args.disk.now) (g.D.NodeDisk.facts.past c.append.new.self) running
    (c.append.ensures.moments told)

pub returns-clause-kept : goal.returns-clause-kept
returns-clause-kept g c = λ told queues batch running b.
    on_ok_weaker c.append.result
    (λ is. append-kept queues (c.the_log_has_a_format.ensures queues) c.args.header batch c.args.bytes.now b
    (g.D.NodeDisk.facts.past c.args.disk.now) running (now (g.D.NodeDisk.facts.past c.append.new.self)) is)
    (c.append.ensures.ok told)

pub returns-clause-beside : goal.returns-clause-beside
returns-clause-beside g c = λ told.
    append-beside (g.D.NodeDisk.facts.past c.args.disk.now) (g.D.NodeDisk.facts.past c.append.new.self)
    (log_of c.args.header.file) c.args.bytes.now (c.append.ensures.moments told)
