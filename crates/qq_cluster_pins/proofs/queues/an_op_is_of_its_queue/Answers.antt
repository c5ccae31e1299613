use Rattle.std.proofs.Common.{sym}
use Rattle.qq_cluster_pins.proofs.Own.{all-own, given-own, new-own, waiting-own}
use Rattle.qq_cluster_pins.proofs.queues.an_op_is_of_its_queue.Goals as goal

pub returns-clause-given : goal.returns-clause-given
returns-clause-given c = λ setup d place k op groups own reached.
    given-own setup d place k (c.what_waits_goes_on.ensures.own setup d place k groups own reached) op

pub returns-clause-waiting : goal.returns-clause-waiting
returns-clause-waiting c = λ setup d place k s op groups own reached.
    waiting-own setup d place k (c.what_waits_goes_on.ensures.own setup d place k groups own reached) s op

pub returns-clause-all : goal.returns-clause-all
returns-clause-all c = all-own

pub returns-clause-new : goal.returns-clause-new
returns-clause-new c = new-own

pub returns-clause-apart : goal.returns-clause-apart
returns-clause-apart c = λ setup place other differ. (((λ same. differ (sym same)), tt), (tt, tt))
