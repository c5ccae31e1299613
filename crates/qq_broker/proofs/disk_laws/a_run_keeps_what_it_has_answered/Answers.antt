use Rattle.qq_disk.specs.Disk.{now}
use Rattle.qq_cluster_run.specs.Serving.{setup_behind}
use Rattle.qq_broker.proofs.RunDisks.{run-linked}
use Rattle.qq_broker.proofs.disk_laws.a_run_keeps_what_it_has_answered.Goals as goal

pub returns-clause-audits : goal.returns-clause-audits
returns-clause-audits g c = λ given first s all left b disks all_new shows clean became.
    c.disks_support_the_audits.ensures (setup_behind b) b.begins.groups b.events
    (λ k. now (g.D.NodeDisk.facts.past (disks k)))
    (λ k there. (run-linked c.a_promised_disk_is_read.ensures.now c.an_empty_disk_keeps_the_promise.ensures
    c.a_crash_without_junk_keeps_the_promise.ensures.image given g.D.NodeDisk.facts first s all left b all_new shows
    clean k there (disks k) (became k there)).promised)

pub returns-clause-answers : goal.returns-clause-answers
returns-clause-answers g c = λ given first s all left b disks all_new shows clean became.
    c.what_was_answered_is_kept.ensures (setup_behind b) b.events (λ k. now (g.D.NodeDisk.facts.past (disks k)))
    b.begins.groups
    (λ k there. (run-linked c.a_promised_disk_is_read.ensures.now c.an_empty_disk_keeps_the_promise.ensures
    c.a_crash_without_junk_keeps_the_promise.ensures.image given g.D.NodeDisk.facts first s all left b all_new shows
    clean k there (disks k) (became k there)).promised)
