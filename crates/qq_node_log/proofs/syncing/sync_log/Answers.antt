use Rattle.std.proofs.Common.{List, ap, subst}
use Rattle.std.specs.Global.{Vec}
use Rattle.qq_base.specs.declared.ids.QueueId.{QueueId}
use Rattle.qq_disk.specs.Disk.{now}
use Rattle.qq_disk.specs.Image.{log_of}
use Rattle.qq_disk.proofs.Stored.{still_tells}
use Rattle.qq_wal.specs.Running.{Stays, StillHolds}
use Rattle.qq_node_log.proofs.Ending.{numbers-last}
use Rattle.qq_node_log.proofs.Same.{beside-grown, same-newest, same-then}
use Rattle.qq_node_log.proofs.Stepping.{comes-no_file, comes-nothing, comes-whole, stays-then}
use Rattle.qq_node_log.proofs.syncing.sync_log.Goals as goal

pub returns-in-Ok-true-clause-come : goal.returns-in-Ok-true-clause-come
returns-in-Ok-true-clause-come g c = λ told.
    let past = g.D.NodeDisk.facts.past in
    let tells = still_tells c.sync_batch.ensures.told told in
    let same = ap (λ (q : Vec QueueId). q.items) c.sync_batch.ensures.file.queues in
    comes-whole c.args.wal.now.queues.items (past c.args.wal.now.disk) (past c.sync_batch.new.self.disk)
    (past c.begin_next.new.wal.disk)
    (record {
      stays = c.sync_batch.ensures.stays told;
      noticed = c.in-Ok.ensures.noticed told;
      holds = c.in-Ok.ensures.holds told;
    })
    (subst (λ (l : List QueueId). Stays l (past c.sync_batch.new.self.disk) (past c.begin_next.new.wal.disk)) same
    (c.begin_next.ensures.stays tells))
    (subst (λ (l : List QueueId). StillHolds l (now (past c.sync_batch.new.self.disk))
    (now (past c.begin_next.new.wal.disk))) same (c.in-Ok-true.ensures.holds tells c.in-Ok-true.field-0-test))

pub returns-in-Ok-false-clause-come : goal.returns-in-Ok-false-clause-come
returns-in-Ok-false-clause-come g c = λ told.
    let past = g.D.NodeDisk.facts.past in
    let same = ap (λ (q : Vec QueueId). q.items) c.sync_batch.ensures.file.queues in
    comes-no_file c.args.wal.now.queues.items (past c.args.wal.now.disk) (past c.sync_batch.new.self.disk)
    (past c.begin_next.new.wal.disk)
    (record {
      stays = c.sync_batch.ensures.stays told;
      noticed = c.in-Ok.ensures.noticed told;
      holds = c.in-Ok.ensures.holds told;
    })
    (subst (λ (l : List QueueId). Stays l (past c.sync_batch.new.self.disk) (past c.begin_next.new.wal.disk)) same
    (c.begin_next.ensures.stays (still_tells c.sync_batch.ensures.told told)))

pub returns-in-Err-Disk-clause-come : goal.returns-in-Err-Disk-clause-come
returns-in-Err-Disk-clause-come g c = λ told.
    comes-nothing c.args.wal.now.queues.items (g.D.NodeDisk.facts.past c.args.wal.now.disk)
    (g.D.NodeDisk.facts.past c.sync_batch.new.self.disk) (c.sync_batch.ensures.stays told)

pub returns-in-Ok-true-clause-stays : goal.returns-in-Ok-true-clause-stays
returns-in-Ok-true-clause-stays g c =
    λ told.
    (let past = g.D.NodeDisk.facts.past in
    let same = ap (λ (q : Vec QueueId). q.items) c.sync_batch.ensures.file.queues in
    stays-then c.args.wal.now.queues.items (past c.args.wal.now.disk) (past c.sync_batch.new.self.disk)
    (past c.begin_next.new.wal.disk) (c.sync_batch.ensures.stays told)
    (subst (λ (l : List QueueId). Stays l (past c.sync_batch.new.self.disk) (past c.begin_next.new.wal.disk))
    same (c.begin_next.ensures.stays (still_tells c.sync_batch.ensures.told told))))

pub returns-in-Ok-false-clause-stays : goal.returns-in-Ok-false-clause-stays
returns-in-Ok-false-clause-stays g c =
    λ told.
    (let past = g.D.NodeDisk.facts.past in
    let same = ap (λ (q : Vec QueueId). q.items) c.sync_batch.ensures.file.queues in
    stays-then c.args.wal.now.queues.items (past c.args.wal.now.disk) (past c.sync_batch.new.self.disk)
    (past c.begin_next.new.wal.disk) (c.sync_batch.ensures.stays told)
    (subst (λ (l : List QueueId). Stays l (past c.sync_batch.new.self.disk) (past c.begin_next.new.wal.disk))
    same (c.begin_next.ensures.stays (still_tells c.sync_batch.ensures.told told))))

pub returns-in-Err-clause-stays : goal.returns-in-Err-clause-stays
returns-in-Err-clause-stays g c =
    λ told.
    (let past = g.D.NodeDisk.facts.past in
    let same = ap (λ (q : Vec QueueId). q.items) c.sync_batch.ensures.file.queues in
    stays-then c.args.wal.now.queues.items (past c.args.wal.now.disk) (past c.sync_batch.new.self.disk)
    (past c.begin_next.new.wal.disk) (c.sync_batch.ensures.stays told)
    (subst (λ (l : List QueueId). Stays l (past c.sync_batch.new.self.disk) (past c.begin_next.new.wal.disk))
    same (c.begin_next.ensures.stays (still_tells c.sync_batch.ensures.told told))))

pub returns-in-Ok-true-clause-same : goal.returns-in-Ok-true-clause-same
returns-in-Ok-true-clause-same g c =
    same-then g.D.NodeDisk.facts c.args.wal.now c.sync_batch.new.self c.begin_next.new.wal (record {
      sound = c.sync_batch.ensures.sound;
      queues = c.sync_batch.ensures.file.queues;
      ahead = c.sync_batch.ensures.ahead;
      told = c.sync_batch.ensures.told;
      later = c.sync_batch.ensures.cause.later;
      whole = λ tell. c.sync_batch.ensures.may tell;
      grown = λ tell. beside-grown (g.D.NodeDisk.facts.past c.args.wal.now.disk)
          (g.D.NodeDisk.facts.past c.sync_batch.new.self.disk)
          (log_of c.args.wal.now.header.file) (c.sync_batch.ensures.beside tell);
      newest = same-newest c.args.wal.now c.sync_batch.new.self c.sync_batch.ensures.file;
    }) c.begin_next.ensures.same

pub returns-in-Ok-false-clause-same : goal.returns-in-Ok-false-clause-same
returns-in-Ok-false-clause-same g c =
    same-then g.D.NodeDisk.facts c.args.wal.now c.sync_batch.new.self c.begin_next.new.wal (record {
      sound = c.sync_batch.ensures.sound;
      queues = c.sync_batch.ensures.file.queues;
      ahead = c.sync_batch.ensures.ahead;
      told = c.sync_batch.ensures.told;
      later = c.sync_batch.ensures.cause.later;
      whole = λ tell. c.sync_batch.ensures.may tell;
      grown = λ tell. beside-grown (g.D.NodeDisk.facts.past c.args.wal.now.disk)
          (g.D.NodeDisk.facts.past c.sync_batch.new.self.disk)
          (log_of c.args.wal.now.header.file) (c.sync_batch.ensures.beside tell);
      newest = same-newest c.args.wal.now c.sync_batch.new.self c.sync_batch.ensures.file;
    }) c.begin_next.ensures.same

pub returns-in-Err-clause-same : goal.returns-in-Err-clause-same
returns-in-Err-clause-same g c =
    same-then g.D.NodeDisk.facts c.args.wal.now c.sync_batch.new.self c.begin_next.new.wal (record {
      sound = c.sync_batch.ensures.sound;
      queues = c.sync_batch.ensures.file.queues;
      ahead = c.sync_batch.ensures.ahead;
      told = c.sync_batch.ensures.told;
      later = c.sync_batch.ensures.cause.later;
      whole = λ tell. c.sync_batch.ensures.may tell;
      grown = λ tell. beside-grown (g.D.NodeDisk.facts.past c.args.wal.now.disk)
          (g.D.NodeDisk.facts.past c.sync_batch.new.self.disk)
          (log_of c.args.wal.now.header.file) (c.sync_batch.ensures.beside tell);
      newest = same-newest c.args.wal.now c.sync_batch.new.self c.sync_batch.ensures.file;
    }) c.begin_next.ensures.same

pub returns-in-Err-clause-cause : goal.returns-in-Err-clause-cause
returns-in-Err-clause-cause g c =
    numbers-last c.args.wal.now c.sync_batch.new.self c.in-Err.memory c.sync_batch.ensures.file.numbers
    c.in-Err.ensures.cause
