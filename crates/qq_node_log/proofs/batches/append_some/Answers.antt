use Rattle.std.proofs.Common.{ap}
use Rattle.qq_disk.specs.Image.{log_of}
use Rattle.qq_wal_record.specs.declared.header.Header.{Header}
use Rattle.qq_node_log.proofs.Batching.{appends-some, write-caused}
use Rattle.qq_node_log.proofs.Same.{beside-grown, same-newest}
use Rattle.qq_node_log.proofs.batches.append_some.Goals as goal

pub returns-in-Ok-clause-ok : goal.returns-in-Ok-clause-ok
returns-in-Ok-clause-ok g c =
    appends-some g.D.NodeDisk.facts c.encodings_have_lengths.ensures.records c.in-Ok.count
    c.args.wal.now c.append_batch.new.self c.requires.sound.waiting c.in-Ok.ensures.batch
    (ap (λ (h : Header). h.file) c.append_batch.ensures.file.header)
    (λ told. c.in-Ok.ensures.holds told)

pub returns-in-Err-clause-cause : goal.returns-in-Err-clause-cause
returns-in-Err-clause-cause g c =
    write-caused g.D.NodeDisk.facts.faults c.args.wal.now.stopped c.args.wal.now c.append_batch.new.self c.in-Err.fault
    c.requires.going c.in-Err.ensures.cause.cause

pub returns-in-Ok-clause-same : goal.returns-in-Ok-clause-same
returns-in-Ok-clause-same g c = record {
  sound = c.append_batch.ensures.sound;
  queues = c.append_batch.ensures.file.queues;
  ahead = c.append_batch.ensures.ahead;
  told = c.append_batch.ensures.told;
  later = c.append_batch.ensures.cause.later;
  whole = λ tell. c.append_batch.ensures.may tell;
  grown = λ tell. beside-grown (g.D.NodeDisk.facts.past c.args.wal.now.disk)
      (g.D.NodeDisk.facts.past c.append_batch.new.self.disk)
      (log_of c.args.wal.now.header.file) (c.append_batch.ensures.beside tell);
  newest = same-newest c.args.wal.now c.append_batch.new.self c.append_batch.ensures.file;
}

pub returns-in-Err-clause-same : goal.returns-in-Err-clause-same
returns-in-Err-clause-same g c = record {
  sound = c.append_batch.ensures.sound;
  queues = c.append_batch.ensures.file.queues;
  ahead = c.append_batch.ensures.ahead;
  told = c.append_batch.ensures.told;
  later = c.append_batch.ensures.cause.later;
  whole = λ tell. c.append_batch.ensures.may tell;
  grown = λ tell. beside-grown (g.D.NodeDisk.facts.past c.args.wal.now.disk)
      (g.D.NodeDisk.facts.past c.append_batch.new.self.disk)
      (log_of c.args.wal.now.header.file) (c.append_batch.ensures.beside tell);
  newest = same-newest c.args.wal.now c.append_batch.new.self c.append_batch.ensures.file;
}
