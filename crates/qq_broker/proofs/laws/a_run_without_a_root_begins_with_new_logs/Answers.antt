use Rattle.qq_broker.proofs.NewLogs.{logs-new}
use Rattle.qq_broker.proofs.laws.a_run_without_a_root_begins_with_new_logs.Goals as goal

pub returns : goal.returns
returns g c = λ is_given first s all left b runs shows.
    logs-new c.a_promised_disk_is_read.ensures.now c.an_empty_disk_keeps_the_promise.ensures is_given g.D.NodeDisk.facts
    first s all left b runs shows
