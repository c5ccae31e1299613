use Rattle.qq_broker.proofs.Undamaged.{not-broken, nothing-found, takes-found}
use Rattle.qq_broker.proofs.disk_laws.without_junk_nothing_is_damaged_or_lost.Goals as goal

pub returns-clause-damaged : goal.returns-clause-damaged
returns-clause-damaged g c = λ given before after setup events k damage groups all_new shows.
    not-broken c.a_promised_disk_is_read.ensures.now c.an_empty_disk_keeps_the_promise.ensures
    c.a_crash_without_junk_keeps_the_promise.ensures.image given g.D.NodeDisk.facts setup events k all_new
    shows damage groups

pub returns-clause-nothing : goal.returns-clause-nothing
returns-clause-nothing g c = λ given before after setup events k place lane all_new shows.
    nothing-found c.a_promised_disk_is_read.ensures.now c.an_empty_disk_keeps_the_promise.ensures
    c.a_crash_without_junk_keeps_the_promise.ensures.image given g.D.NodeDisk.facts setup events k
    all_new shows place lane

pub returns-clause-lost : goal.returns-clause-lost
returns-clause-lost g c = λ given before after setup events k place lane groups all_new shows some clean down follow on.
    takes-found c.a_promised_disk_is_read.ensures.now c.an_empty_disk_keeps_the_promise.ensures
    c.a_crash_without_junk_keeps_the_promise.ensures.image given g.D.NodeDisk.facts setup events k all_new shows place
    lane groups some clean down follow on
