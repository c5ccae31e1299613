use Rattle.qq_cluster_model.proofs.Groups.{group-is}
use Rattle.qq_cluster_model.specs.Queue.{begin}
use Rattle.qq_cluster_model.proofs.queues.a_queue_is_its_group.Goals as goal

pub returns : goal.returns
returns c = λ args group events. group-is (begin args group) events
