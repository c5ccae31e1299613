use Rattle.qq_disk_pins.proofs.Named.{one_newest}
use Rattle.qq_disk_pins.proofs.images.the_newest_log_is_one.Goals as goal

pub returns : goal.returns
returns c = one_newest
