use Rattle.std.proofs.Common.{◌≡◌, ◌++◌}
use Rattle.qq_dir_disk.proofs.listing.in_order.Given as goal

abbrev pub invariant-loop-name : goal.invariant-loop-name
invariant-loop-name l = l.list.items ++ l.name-iterator ≡ l.names.keys
