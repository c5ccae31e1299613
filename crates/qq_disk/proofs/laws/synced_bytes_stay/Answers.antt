use Rattle.qq_disk.proofs.Crashes.{stays}
use Rattle.qq_disk.proofs.laws.synced_bytes_stay.Goals as goal

pub returns : goal.returns
returns c = stays
