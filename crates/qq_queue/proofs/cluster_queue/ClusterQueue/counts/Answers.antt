use Rattle.qq_queue.proofs.Leading.{counts-are, counts-none}
use Rattle.qq_queue.proofs.cluster_queue.ClusterQueue.counts.Goals as goal

pub returns-in_default : goal.returns-in_default
returns-in_default c = λ sessions q st. counts-none sessions c.args.self.now q st c.in_default.ensures.none

pub returns : goal.returns
returns c = λ sessions q st.
    counts-are c.what_is_committed_stays_in_the_audit.ensures.known c.what_a_group_committed_stays.ensures.commit
    c.parts_tell_the_queue.ensures sessions c.args.self.now q c.in-Some.queue.now c.machine-machine.result.now
    c.counts.result st c.in-Some.ensures.value c.machine-machine.ensures c.counts.ensures.ready
    c.counts.ensures.consumers
