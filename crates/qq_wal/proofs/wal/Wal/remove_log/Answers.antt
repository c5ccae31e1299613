use Rattle.std.proofs.Common.{inl, refl}
use Rattle.qq_disk.specs.Disk.{now}
use Rattle.qq_disk.specs.Image.{log_of}
use Rattle.qq_disk.specs.Moments.{IsRemoving}
use Rattle.qq_disk.proofs.Moments.{adds-now}
use Rattle.qq_wal.proofs.Frames.{remove-beside}
use Rattle.qq_wal.proofs.Refusing.{stays-at-want, still-sound, stops}
use Rattle.qq_wal.proofs.Removing.{removed-sound, removed-stays, still-may, still-outside, still-shown}
use Rattle.qq_wal.proofs.Steps.{still-holds}
use Rattle.qq_wal.proofs.wal.Wal.remove_log.Goals as goal

pub returns-in-Err-clause-outside : goal.returns-in-Err-clause-outside
returns-in-Err-clause-outside g c = λ told same m is.
    let past = g.D.NodeDisk.facts.past in
    let was = c.args.self.now in
    let queues = was.queues.items in
    let laws = c.the_log_has_a_format.ensures queues in
    let going = c.if-self.false in
    let d = now (past was.disk) in
    let e = now (past c.remove.new.self) in
    let gone = adds-now (IsRemoving d (log_of c.args.number)) (past was.disk) (past c.remove.new.self)
    (c.remove.ensures.moments told) (inl refl) in
    still-outside queues laws was.header d e c.args.number (c.requires.sound.on_disk told going).log
    (c.requires.outside told going) gone m is

pub returns-clause-outside : goal.returns-clause-outside
returns-clause-outside g c = λ told same m is.
    let past = g.D.NodeDisk.facts.past in
    let was = c.args.self.now in
    let queues = was.queues.items in
    let laws = c.the_log_has_a_format.ensures queues in
    let going = c.if-self.false in
    let d = now (past was.disk) in
    let e = now (past c.remove.new.self) in
    let gone = adds-now (IsRemoving d (log_of c.args.number)) (past was.disk) (past c.remove.new.self)
    (c.remove.ensures.moments told) (inl refl) in
    still-outside queues laws was.header d e c.args.number (c.requires.sound.on_disk told going).log
    (c.requires.outside told going) gone m is

pub returns-in-Err-clause-may : goal.returns-in-Err-clause-may
returns-in-Err-clause-may g c = λ told may.
    let past = g.D.NodeDisk.facts.past in
    let was = c.args.self.now in
    let queues = was.queues.items in
    let laws = c.the_log_has_a_format.ensures queues in
    let going = c.if-self.false in
    let d = now (past was.disk) in
    let e = now (past c.remove.new.self) in
    let gone = adds-now (IsRemoving d (log_of c.args.number)) (past was.disk) (past c.remove.new.self)
    (c.remove.ensures.moments told) (inl refl) in
    still-may queues laws was.header d e c.args.number (c.requires.sound.on_disk told going).log
    (c.requires.outside told going) gone

pub returns-clause-may : goal.returns-clause-may
returns-clause-may g c = λ told may.
    let past = g.D.NodeDisk.facts.past in
    let was = c.args.self.now in
    let queues = was.queues.items in
    let laws = c.the_log_has_a_format.ensures queues in
    let going = c.if-self.false in
    let d = now (past was.disk) in
    let e = now (past c.remove.new.self) in
    let gone = adds-now (IsRemoving d (log_of c.args.number)) (past was.disk) (past c.remove.new.self)
    (c.remove.ensures.moments told) (inl refl) in
    still-may queues laws was.header d e c.args.number (c.requires.sound.on_disk told going).log
    (c.requires.outside told going) gone

pub returns-in-Err-clause-stays : goal.returns-in-Err-clause-stays
returns-in-Err-clause-stays g c = λ told.
    let past = g.D.NodeDisk.facts.past in
    let was = c.args.self.now in
    let queues = was.queues.items in
    let laws = c.the_log_has_a_format.ensures queues in
    let going = c.if-self.false in
    let d = now (past was.disk) in
    let e = now (past c.remove.new.self) in
    removed-stays queues laws was.header c.args.number (past was.disk) (past c.remove.new.self)
    (c.requires.sound.on_disk told going).log (c.requires.outside told going) (c.remove.ensures.moments told)

pub returns-clause-stays : goal.returns-clause-stays
returns-clause-stays g c = λ told.
    let past = g.D.NodeDisk.facts.past in
    let was = c.args.self.now in
    let queues = was.queues.items in
    let laws = c.the_log_has_a_format.ensures queues in
    let going = c.if-self.false in
    let d = now (past was.disk) in
    let e = now (past c.remove.new.self) in
    removed-stays queues laws was.header c.args.number (past was.disk) (past c.remove.new.self)
    (c.requires.sound.on_disk told going).log (c.requires.outside told going) (c.remove.ensures.moments told)

pub returns-in-Err-clause-beside : goal.returns-in-Err-clause-beside
returns-in-Err-clause-beside g c = λ told.
    remove-beside (g.D.NodeDisk.facts.past c.args.self.now.disk) (g.D.NodeDisk.facts.past c.remove.new.self)
    (log_of c.args.number) (c.remove.ensures.moments told)

pub returns-clause-beside : goal.returns-clause-beside
returns-clause-beside g c = λ told.
    remove-beside (g.D.NodeDisk.facts.past c.args.self.now.disk) (g.D.NodeDisk.facts.past c.remove.new.self)
    (log_of c.args.number) (c.remove.ensures.moments told)

pub returns-clause-holds : goal.returns-clause-holds
returns-clause-holds g c = λ told.
    let past = g.D.NodeDisk.facts.past in
    let was = c.args.self.now in
    let queues = was.queues.items in
    let laws = c.the_log_has_a_format.ensures queues in
    let going = c.if-self.false in
    let d = now (past was.disk) in
    let e = now (past c.remove.new.self) in
    let gone = adds-now (IsRemoving d (log_of c.args.number)) (past was.disk) (past c.remove.new.self)
    (c.remove.ensures.moments told) (inl refl) in
    still-holds queues d e
    (still-shown queues laws was.header d e c.args.number (c.requires.sound.on_disk told going).log
    (c.requires.outside told going) gone)

pub returns-clause-sound : goal.returns-clause-sound
returns-clause-sound g c =
    let past = g.D.NodeDisk.facts.past in
    let was = c.args.self.now in
    removed-sound g.D.NodeDisk.facts was c.remove.new.self c.args.number
    (c.the_log_has_a_format.ensures was.queues.items) c.requires.sound c.remove.ensures.told
    (λ told going. (
      c.requires.outside told going,
      adds-now (IsRemoving (now (past was.disk)) (log_of c.args.number)) (past was.disk) (past c.remove.new.self)
          (c.remove.ensures.moments told) (inl refl),
    ))

pub returns-in-Err-clause-sound : goal.returns-in-Err-clause-sound
returns-in-Err-clause-sound g c =
    let past = g.D.NodeDisk.facts.past in
    still-sound g.D.NodeDisk.facts c.args.self.now c.remove.new.self c.is_failure-self.result c.requires.sound
    c.if-self.false c.remove.ensures.told
    (λ told. stays-at-want (past c.args.self.now.disk) (past c.remove.new.self) c.in-Err.fault
    c.is_failure-self.result c.is_failure-self.ensures (c.in-Err.ensures.want told))

pub returns-in-Err-clause-stops : goal.returns-in-Err-clause-stops
returns-in-Err-clause-stops g c =
    stops (Unit {0}) c.args.self.now.stopped c.is_failure-self.result c.in-Err.fault c.fault_of.result
    c.fault_of.ensures c.if-self.false c.is_failure-self.ensures

pub returns-in-Err-clause-moments : goal.returns-in-Err-clause-moments
returns-in-Err-clause-moments g c = λ told.
    let past = g.D.NodeDisk.facts.past in
    stays-at-want (past c.args.self.now.disk) (past c.remove.new.self) c.in-Err.fault c.is_failure-self.result
    c.is_failure-self.ensures (c.in-Err.ensures.want told)
