use Rattle.std.proofs.Common.{take}
use Rattle.qq_route.proofs.Sets.{Gathers}
use Rattle.qq_route.proofs.routes.gather.Given as goal

abbrev pub invariant-loop-queue : goal.invariant-loop-queue
invariant-loop-queue l = Gathers l.known.keys l.set.keys (take l.queue-index l.queues)
