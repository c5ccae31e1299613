use Rattle.qq_opening.proofs.Reopened.{NoneTo}
use Rattle.qq_opening.proofs.reopening.has_up.Given as goal

-- none of the nodes so far is up
abbrev pub invariant-nodes : goal.invariant-nodes
invariant-nodes g l = NoneTo g.D.NodeDisk.facts l.nodes l.at
