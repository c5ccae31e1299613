use Rattle.qq_cluster_run.proofs.Serial.{serial-at, stays-at, once-at, counts-at}
use Rattle.qq_cluster_run.proofs.queues.audits_are_serial.Goals as goal

pub returns-clause-serial : goal.returns-clause-serial
returns-clause-serial c = serial-at c.each_queue_is_its_own.ensures.queues

pub returns-clause-stays : goal.returns-clause-stays
returns-clause-stays c = stays-at c.each_queue_is_its_own.ensures.queues c.an_audit_is_serial.ensures.stays

pub returns-clause-once : goal.returns-clause-once
returns-clause-once c = once-at c.each_queue_is_its_own.ensures.queues c.sessions_go_on.ensures.answered

pub returns-clause-noticed : goal.returns-clause-noticed
returns-clause-noticed c = λ s all left b place k.
    (counts-at c.each_queue_is_its_own.ensures.queues c.ops_are_noticed_once_synced.ensures s all left b place k).noticed

pub returns-clause-synced : goal.returns-clause-synced
returns-clause-synced c = λ s all left b place k.
    (counts-at c.each_queue_is_its_own.ensures.queues c.ops_are_noticed_once_synced.ensures s all left b place k).synced
