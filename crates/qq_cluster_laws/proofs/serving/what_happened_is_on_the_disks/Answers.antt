use Rattle.qq_cluster_laws.proofs.Serves.{happened-disks, happened-text}
use Rattle.qq_cluster_laws.proofs.serving.what_happened_is_on_the_disks.Goals as goal

pub returns-clause-text : goal.returns-clause-text
returns-clause-text c = happened-text

pub returns-clause-disks : goal.returns-clause-disks
returns-clause-disks c = happened-disks
