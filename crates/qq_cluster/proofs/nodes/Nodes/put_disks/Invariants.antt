use Rattle.std.proofs.Common.{◌≡◌}
use Rattle.std.specs.Prelude.{vec_capacity}
use Rattle.qq_cluster.proofs.Putting.{PutTo}
use Rattle.qq_cluster.proofs.nodes.Nodes.put_disks.Given as goal

-- the last nodes have their disks, and the list has its room
abbrev pub invariant-disks : goal.invariant-disks
invariant-disks g l = record {
  same : l.self ≡ record l.fn.self { nodes = l.self.nodes };
  puts : PutTo l.put l.fn.disks.items l.fn.self.nodes.items l.self.nodes.items l.disks.items;
  room : vec_capacity l.disks ≡ vec_capacity l.fn.disks;
}
