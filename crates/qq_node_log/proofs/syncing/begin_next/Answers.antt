use Rattle.std.proofs.Common.{◌+◌}
use Rattle.qq_disk.specs.Image.{log_of}
use Rattle.qq_node_log.proofs.Same.{beside-grown, kept-newest, rolled-newest}
use Rattle.qq_node_log.proofs.syncing.begin_next.Goals as goal

pub returns-in-Ok-clause-same : goal.returns-in-Ok-clause-same
returns-in-Ok-clause-same g c = record {
  sound = c.roll.ensures.sound;
  queues = c.roll.ensures.queues;
  ahead = c.roll.ensures.ahead;
  told = c.roll.ensures.told;
  later = c.roll.ensures.cause.later;
  whole = λ tell. c.roll.ensures.may tell;
  grown = λ tell. beside-grown (g.D.NodeDisk.facts.past c.args.wal.now.disk)
      (g.D.NodeDisk.facts.past c.roll.new.self.disk)
      (log_of (c.args.wal.now.numbers.log + 1)) (c.roll.ensures.beside tell);
  newest = λ newest. rolled-newest c.args.wal.now c.roll.new.self c.in-Ok.ensures.ok;
}

pub returns-in-Err-Disk-clause-same : goal.returns-in-Err-Disk-clause-same
returns-in-Err-Disk-clause-same g c = record {
  sound = c.roll.ensures.sound;
  queues = c.roll.ensures.queues;
  ahead = c.roll.ensures.ahead;
  told = c.roll.ensures.told;
  later = c.roll.ensures.cause.later;
  whole = λ tell. c.roll.ensures.may tell;
  grown = λ tell. beside-grown (g.D.NodeDisk.facts.past c.args.wal.now.disk)
      (g.D.NodeDisk.facts.past c.roll.new.self.disk)
      (log_of (c.args.wal.now.numbers.log + 1)) (c.roll.ensures.beside tell);
  newest = kept-newest c.args.wal.now c.roll.new.self c.in-Err-Disk.ensures.err;
}

pub returns-in-Err-Memory-clause-same : goal.returns-in-Err-Memory-clause-same
returns-in-Err-Memory-clause-same g c = record {
  sound = c.roll.ensures.sound;
  queues = c.roll.ensures.queues;
  ahead = c.roll.ensures.ahead;
  told = c.roll.ensures.told;
  later = c.roll.ensures.cause.later;
  whole = λ tell. c.roll.ensures.may tell;
  grown = λ tell. beside-grown (g.D.NodeDisk.facts.past c.args.wal.now.disk)
      (g.D.NodeDisk.facts.past c.roll.new.self.disk)
      (log_of (c.args.wal.now.numbers.log + 1)) (c.roll.ensures.beside tell);
  newest = kept-newest c.args.wal.now c.roll.new.self c.in-Err-Memory.ensures.err;
}
