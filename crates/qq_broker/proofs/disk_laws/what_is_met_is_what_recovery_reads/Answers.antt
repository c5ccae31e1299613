use Rattle.qq_broker.proofs.Undamaged.{broken-place, broken-version, queue-read}
use Rattle.qq_broker.proofs.disk_laws.what_is_met_is_what_recovery_reads.Goals as goal

pub returns-clause-place : goal.returns-clause-place
returns-clause-place g c = λ given before after setup events k number place shows.
    broken-place given g.D.NodeDisk.facts setup events k shows number place

pub returns-clause-version : goal.returns-clause-version
returns-clause-version g c = λ given before after setup events k number byte shows.
    broken-version given g.D.NodeDisk.facts setup events k shows number byte

pub returns-clause-queue : goal.returns-clause-queue
returns-clause-queue g c = λ given before after setup events k place lane shows.
    queue-read given g.D.NodeDisk.facts setup events k shows place lane
