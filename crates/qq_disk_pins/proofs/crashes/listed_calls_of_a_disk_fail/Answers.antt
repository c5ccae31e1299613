use Rattle.qq_disk_pins.proofs.Fresh.{listed-first, listed-second, fuse-burns}
use Rattle.qq_disk_pins.proofs.crashes.listed_calls_of_a_disk_fail.Goals as goal

pub returns-clause-first : goal.returns-clause-first
returns-clause-first c = listed-first

pub returns-clause-second : goal.returns-clause-second
returns-clause-second c = listed-second

pub returns-clause-fuse : goal.returns-clause-fuse
returns-clause-fuse c = fuse-burns
