use Rattle.qq_cluster_laws.proofs.Waiting.{all-listed, all-wait, given-sound, gives-waiting, owns-ops, waiting-stable}
use Rattle.qq_cluster_laws.proofs.giving.what_waits_goes_on.Goals as goal

pub returns-clause-own : goal.returns-clause-own
returns-clause-own c = owns-ops

pub returns-clause-gives : goal.returns-clause-gives
returns-clause-gives c = gives-waiting

pub returns-clause-waits : goal.returns-clause-waits
returns-clause-waits c = all-wait

pub returns-clause-comes : goal.returns-clause-comes
returns-clause-comes c = λ setup d place k groups reached.
    waiting-stable c.the_disks_support_the_audit.ensures.left setup groups d reached place k

pub returns-clause-sound : goal.returns-clause-sound
returns-clause-sound c = λ setup d k ops groups reached waits.
    given-sound c.the_disks_support_the_audit.ensures.left setup groups d k ops reached waits

pub returns-clause-listed : goal.returns-clause-listed
returns-clause-listed c = all-listed
