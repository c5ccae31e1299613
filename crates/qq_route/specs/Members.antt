-- Which nodes have a queue's group.
use Rattle.std.specs.Prelude.{ℕ, ◌+◌, ◌%◌, List, map, min}
use Rattle.std.specs.List.{range_with_len}
use Rattle.qq_base.specs.declared.ids.NodeId.{NodeId}

-- the k-th member of the queue that has so many queues before it
abbrev pub member : ℕ → ℕ → ℕ → NodeId
member nodes before k = record { 0 = (before + k) % nodes + 1 }

-- as many members as the group has, at most one on each node
abbrev pub members : ℕ → ℕ → ℕ → List NodeId
members nodes group before = map (member nodes before) (range_with_len 0 (min group nodes))
