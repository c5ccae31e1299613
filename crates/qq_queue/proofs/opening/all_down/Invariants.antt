use Rattle.std.proofs.Common.{◌≡◌, map, take}
use Rattle.qq_queue.specs.Members.{down_start}
use Rattle.qq_queue.proofs.opening.all_down.Given as goal

abbrev pub invariant-nodes : goal.invariant-nodes
invariant-nodes l = l.starts.items ≡ map down_start (take l.node-index l.nodes)
