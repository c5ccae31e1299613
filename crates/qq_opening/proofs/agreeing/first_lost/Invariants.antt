use Rattle.qq_opening.proofs.Agreed.{AgreeBelow}
use Rattle.qq_opening.proofs.agreeing.first_lost.Given as goal

-- the first queues agree
abbrev pub invariant-queues : goal.invariant-queues
invariant-queues g l = AgreeBelow l.at l.nodes.queues.items
