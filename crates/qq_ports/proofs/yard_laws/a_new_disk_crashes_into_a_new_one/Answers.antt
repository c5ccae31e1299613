use Rattle.qq_ports.proofs.Crashes.{new_again}
use Rattle.qq_ports.proofs.yard_laws.a_new_disk_crashes_into_a_new_one.Goals as goal

pub returns : goal.returns
returns c = new_again
