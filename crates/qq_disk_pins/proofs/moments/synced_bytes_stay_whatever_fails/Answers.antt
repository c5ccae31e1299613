use Rattle.qq_disk_pins.proofs.Runs.{stays_whatever_fails}
use Rattle.qq_disk_pins.proofs.moments.synced_bytes_stay_whatever_fails.Goals as goal

pub returns : goal.returns
returns c = stays_whatever_fails
