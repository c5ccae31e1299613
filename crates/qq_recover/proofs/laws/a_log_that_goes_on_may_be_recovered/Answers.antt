use Rattle.qq_disk.specs.Disk.{now}
use Rattle.qq_wal.proofs.Steps.{running-may}
use Rattle.qq_recover.proofs.laws.a_log_that_goes_on_may_be_recovered.Goals as goal

pub returns : goal.returns
returns g c = λ w s told going.
    let queues = w.queues.items in
    running-may queues (c.the_log_has_a_format.ensures queues) w.header (now (g.D.NodeDisk.facts.past w.disk))
    (s.on_disk told going).log
