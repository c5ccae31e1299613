use Rattle.qq_disk.specs.Disk.{now}
use Rattle.qq_wal.proofs.Batches.{told_before}
use Rattle.qq_wal.proofs.Beside.{beside-keeps, beside-kept, beside-on_disk, beside-synced}
use Rattle.qq_wal.proofs.laws.other_files_keep_the_log_sound.Goals as goal

pub returns-clause-sound : goal.returns-clause-sound
returns-clause-sound g c = λ w d is tells same. record {
  waiting = is.waiting;
  follow = is.follow;
  queues_are = is.queues_are;
  carries = is.carries;
  number = is.number;
  counted = is.counted;
  named = is.named;
  on_disk = λ told going.
      beside-on_disk w.queues.items (now (g.D.NodeDisk.facts.past w.disk)) (now (g.D.NodeDisk.facts.past d))
      same w.header w.marks w.size w.numbers (is.on_disk (told_before tells told) going);
  synced = λ told going clean.
      beside-synced w.queues.items (now (g.D.NodeDisk.facts.past w.disk))
      (now (g.D.NodeDisk.facts.past d)) same w.header (is.synced (told_before tells told) going clean);
  kept = λ told going.
      beside-kept w.queues.items (now (g.D.NodeDisk.facts.past w.disk)) (now (g.D.NodeDisk.facts.past d))
      same w.header w.marks (is.kept (told_before tells told) going);
}

pub returns-clause-promise : goal.returns-clause-promise
returns-clause-promise g c = λ queues noticed given d e same. beside-keeps queues d e same noticed given
