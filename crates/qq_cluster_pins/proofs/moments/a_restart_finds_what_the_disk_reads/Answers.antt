use Rattle.qq_cluster_pins.proofs.Times.{finds-read}
use Rattle.qq_cluster_pins.proofs.moments.a_restart_finds_what_the_disk_reads.Goals as goal

pub returns : goal.returns
returns c = finds-read
