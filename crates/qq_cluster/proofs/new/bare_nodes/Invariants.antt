use Rattle.qq_cluster.specs.Disks.{AreBareNodes}
use Rattle.qq_cluster.proofs.new.bare_nodes.Given as goal

-- so many of them
abbrev pub invariant-nodes : goal.invariant-nodes
invariant-nodes g l = AreBareNodes l.rows l.at l.nodes.items
