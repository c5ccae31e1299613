use Rattle.std.proofs.Common.{◌≡◌, ◌≤◌}
use Rattle.std.specs.Prelude.{length, vec_capacity}
use Rattle.qq_cluster.proofs.Putting.{TakenTo}
use Rattle.qq_cluster.proofs.nodes.Nodes.take_disks.Given as goal

-- the first nodes have given their disks up, and there is room for all of them
abbrev pub invariant-nodes : goal.invariant-nodes
invariant-nodes g l = record {
  same : l.self ≡ record l.fn.self { nodes = l.self.nodes };
  takes : TakenTo l.at l.fn.self.nodes.items l.self.nodes.items l.disks.items;
  room : length l.fn.self.nodes.items ≤ vec_capacity l.disks;
}
