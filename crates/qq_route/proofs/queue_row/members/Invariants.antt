use Rattle.std.proofs.Common.{◌≡◌, map}
use Rattle.std.specs.List.{range_with_len}
use Rattle.qq_route.specs.Members.{member}
use Rattle.qq_route.proofs.queue_row.members.Given as goal

abbrev pub invariant-loop-k : goal.invariant-loop-k
invariant-loop-k l = l.list.items ≡ map (member l.nodes l.before) (range_with_len 0 l.k)
