use Rattle.std.proofs.Common.{◌≡◌, take}
use Rattle.qq_group.specs.Reads.{latest}
use Rattle.qq_group.proofs.group.Group.leader.Given as goal

-- the latest of those so far
abbrev pub invariant-nodes : goal.invariant-nodes
invariant-nodes g l = l.best ≡ latest g.L.LogView.log l.self (take l.node-index l.self.nodes.items)
