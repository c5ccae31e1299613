use Rattle.std.proofs.Common.{◌∙◌, ap, subst, sym}
use Rattle.qq_wal.specs.declared.wal.Wal.{Wal}
use Rattle.qq_recover.specs.Recovered.{wal_of}
use Rattle.qq_node_log.specs.Steps.{SameDisk}
use Rattle.qq_node_log.proofs.Finding.{fails-keeping, has-found, wants-keeping}
use Rattle.qq_node_log.proofs.Same.{disk-same}
use Rattle.qq_node_log.proofs.recovering.recover_log.Goals as goal

pub returns-in-Err-clause-fails : goal.returns-in-Err-clause-fails
returns-in-Err-clause-fails g c = λ told.
    fails-keeping c.args.queues.now (g.D.NodeDisk.facts.past c.args.disk) (g.D.NodeDisk.facts.past c.in-Err.refusal.1)
    c.in-Err.refusal.0 (c.in-Err.ensures.stays told) (c.in-Err.ensures.never_refused told)

pub returns-in-Ok-take_lanes-clause-ok : goal.returns-in-Ok-take_lanes-clause-ok
returns-in-Ok-take_lanes-clause-ok g c =
    has-found g.D.NodeDisk.facts c.args.queues.now c.args.log_bytes c.args.disk c.in-Ok.recovered c.into_wal.result
    c.in-Ok-take_lanes.lanes (c.into_wal.ensures ∙ c.take_lanes.ensures.wal)
    c.in-Ok-take_lanes.ensures.ok c.in-Ok-take_lanes.ensures.within c.in-Ok.ensures.sound c.in-Ok.ensures.knows
    c.in-Ok.ensures.goes_on (λ told. c.in-Ok.ensures.lanes told) (λ told. c.in-Ok.ensures.stays told)
    (λ told. c.in-Ok.ensures.settles told)

pub returns-in-Err-take_lanes-clause-fails : goal.returns-in-Err-take_lanes-clause-fails
returns-in-Err-take_lanes-clause-fails g c = λ told.
    wants-keeping g.D.NodeDisk.facts.past c.args.queues.now (g.D.NodeDisk.facts.past c.args.disk)
    c.in-Err-take_lanes.memory c.into_disk.result c.in-Ok.recovered
    (c.into_disk.ensures ∙ ap (λ (w : Wal _). w.disk) (c.into_wal-in-Err-take_lanes.ensures ∙ c.take_lanes.ensures.wal))
    (c.in-Ok.ensures.stays told)

pub returns-in-Err-clause-same : goal.returns-in-Err-clause-same
returns-in-Err-clause-same g c =
    disk-same g.D.NodeDisk.facts c.args.queues.now c.args.disk c.in-Err.refusal.1 c.in-Err.ensures.told
    c.in-Err.ensures.later (λ told. c.in-Err.ensures.may told)

pub returns-in-Ok-take_lanes-clause-same : goal.returns-in-Ok-take_lanes-clause-same
returns-in-Ok-take_lanes-clause-same g c =
    let facts = g.D.NodeDisk.facts in
    subst (λ (w : Wal _). SameDisk facts c.args.queues.now c.args.disk w.disk)
    (sym (c.into_wal.ensures ∙ c.take_lanes.ensures.wal))
    (disk-same facts c.args.queues.now c.args.disk (wal_of c.in-Ok.recovered).disk c.in-Ok.ensures.told
    c.in-Ok.ensures.later (λ told. c.in-Ok.ensures.may told))

pub returns-in-Err-take_lanes-clause-same : goal.returns-in-Err-take_lanes-clause-same
returns-in-Err-take_lanes-clause-same g c =
    let facts = g.D.NodeDisk.facts in
    subst (SameDisk facts c.args.queues.now c.args.disk)
    (sym (c.into_disk.ensures ∙ ap (λ (w : Wal _). w.disk) (c.into_wal-in-Err-take_lanes.ensures ∙ c.take_lanes.ensures.wal)))
    (disk-same facts c.args.queues.now c.args.disk (wal_of c.in-Ok.recovered).disk c.in-Ok.ensures.told
    c.in-Ok.ensures.later (λ told. c.in-Ok.ensures.may told))
