use Rattle.qq_disk.specs.Disk.{now}
use Rattle.qq_wal_chain.specs.Image.{logs_of}
use Rattle.qq_wal_chain.proofs.Promised.{log-image}
use Rattle.qq_wal.proofs.Held.{image-has, synced-at}
use Rattle.qq_wal.proofs.laws.what_counts_as_synced_is_in_every_image.Goals as goal

pub returns : goal.returns
returns g c = λ w i id s told going image honest.
    let queues = w.queues.items in
    let d = now (g.D.NodeDisk.facts.past w.disk) in
    let on = s.on_disk told going in
    let has = image-has queues (c.the_log_has_a_format.ensures queues) w.header w.marks d on.log on.lanes on.shown
    (s.kept told going) (logs_of i) (log-image queues d i image honest) in (
      has.lanes,
      has.is,
      synced-at has.lanes w.marks id has.each,
    )
