use Rattle.qq_cluster_model.specs.Laws.{queue_after}
use Rattle.qq_cluster_model.specs.Queue.{begin}
use Rattle.qq_cluster_model.proofs.Groups.{audit-grows, reached-all, reached-new, serial-after}
use Rattle.qq_cluster_model.proofs.queues.an_audit_is_serial.Goals as goal

pub returns-clause-serial : goal.returns-clause-serial
returns-clause-serial c = serial-after

pub returns-clause-stays : goal.returns-clause-stays
returns-clause-stays c = λ args group first second begun.
    audit-grows c.what_a_group_committed_stays.ensures.audit (queue_after args group first) second
    (reached-all (begin args group) first (reached-new args group begun))
