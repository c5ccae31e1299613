use Rattle.qq_broker.proofs.Keeping.{kept-begun, kept-new}
use Rattle.qq_broker.proofs.RunDisks.{run-disk}
use Rattle.qq_broker.proofs.disk_laws.disks_keep_what_was_promised.Goals as goal

pub returns-clause-new : goal.returns-clause-new
returns-clause-new g c = λ given setup events k.
    kept-new c.a_promised_disk_is_read.ensures.now c.an_empty_disk_keeps_the_promise.ensures
    c.a_crash_without_junk_keeps_the_promise.ensures.image given g.D.NodeDisk.facts setup k events

pub returns-clause-begun : goal.returns-clause-begun
returns-clause-begun g c = λ given setup events k.
    kept-begun c.a_promised_disk_is_read.ensures.now c.an_empty_disk_keeps_the_promise.ensures
    c.a_crash_without_junk_keeps_the_promise.ensures.image given g.D.NodeDisk.facts setup k events

pub returns-clause-run : goal.returns-clause-run
returns-clause-run g c = λ given first s all left b all_new shows clean.
    run-disk c.a_promised_disk_is_read.ensures.now c.an_empty_disk_keeps_the_promise.ensures
    c.a_crash_without_junk_keeps_the_promise.ensures.image given g.D.NodeDisk.facts first s all left b
    all_new shows clean
