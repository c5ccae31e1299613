use Rattle.qq_broker.proofs.Keeping.{found-new}
use Rattle.qq_broker.proofs.disk_laws.a_restart_finds_what_the_disk_reads.Goals as goal

pub returns : goal.returns
returns g c = λ given setup events k ops last groups all_new tell clean became.
    found-new c.a_promised_disk_is_read.ensures.now c.an_empty_disk_keeps_the_promise.ensures
    c.a_crash_without_junk_keeps_the_promise.ensures.image given g.D.NodeDisk.facts setup k events ops last groups
    all_new tell clean became
