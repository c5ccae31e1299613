use Rattle.std.proofs.Common.{◌≡◌, ◌++◌}
use Rattle.qq_mem_disk.specs.Listing.{listed_names}
use Rattle.qq_mem_disk.proofs.listing.names.Given as goal

abbrev pub invariant-loop-name : goal.invariant-loop-name
invariant-loop-name l = l.names.items ++ listed_names l.name-iterator ≡ listed_names l.files.entries
