use Rattle.qq_opening.proofs.TakingUp.{HasTakenUp}
use Rattle.qq_opening.proofs.taking.take_up_each.Given as goal

-- the first members have gone on
abbrev pub invariant-lanes : goal.invariant-lanes
invariant-lanes l =
    HasTakenUp l.node.0 l.handed l.ids l.fn.lanes.items l.fn.queues.items l.at l.lane-iterator.rest.items l.queues.items
