use Rattle.std.proofs.Common.{[]}
use Rattle.qq_cluster_model.proofs.queues.a_queue_may_begin_with_new_logs.Goals as goal

pub returns : goal.returns
returns c = λ queue nodes distinct.
    record { distinct = distinct; whole = []; opened = c.groups_are_opened.ensures.new queue nodes }
