use Rattle.qq_disk.specs.Disk.{now}
use Rattle.qq_broker.specs.Broker.{seen_among, setup_at}
use Rattle.qq_broker.proofs.RestDisks.{rest-groups, rest-promised}
use Rattle.qq_broker.proofs.rest_laws.a_stopped_broker_keeps_what_it_has_answered.Goals as goal

pub returns-clause-groups : goal.returns-clause-groups
returns-clause-groups g c = λ given t disks a run. rest-groups given g.D.NodeDisk.facts t disks a run

pub returns-clause-audits : goal.returns-clause-audits
returns-clause-audits g c = λ given t disks a run groups rests all_new shows clean.
    c.disks_support_the_audits.ensures (setup_at t run) groups run.events
    (λ k. now (seen_among g.D.NodeDisk.facts disks k).past)
    (rest-promised given g.D.NodeDisk.facts t disks a run rests c.a_promised_disk_is_read.ensures.now
    c.an_empty_disk_keeps_the_promise.ensures c.a_crash_without_junk_keeps_the_promise.ensures.image all_new
    shows clean)

pub returns-clause-answers : goal.returns-clause-answers
returns-clause-answers g c = λ given t disks a run rests all_new shows clean.
    c.what_was_answered_is_kept.ensures (setup_at t run) run.events
    (λ k. now (seen_among g.D.NodeDisk.facts disks k).past)
    (rest-groups given g.D.NodeDisk.facts t disks a run rests)
    (rest-promised given g.D.NodeDisk.facts t disks a run rests c.a_promised_disk_is_read.ensures.now
    c.an_empty_disk_keeps_the_promise.ensures c.a_crash_without_junk_keeps_the_promise.ensures.image all_new
    shows clean)
