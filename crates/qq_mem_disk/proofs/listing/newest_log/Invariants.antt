use Rattle.std.proofs.Common.{◌≡◌, None}
use Rattle.qq_mem_disk.specs.Listing.{last_log}
use Rattle.qq_mem_disk.proofs.listing.newest_log.Given as goal

abbrev pub invariant-loop-name : goal.invariant-loop-name
invariant-loop-name l =
    last_log l.removed_back l.newest l.name-iterator ≡ last_log l.removed_back None l.files.entries
