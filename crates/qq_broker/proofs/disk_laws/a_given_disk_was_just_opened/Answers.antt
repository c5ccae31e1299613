use Rattle.qq_broker.proofs.Opened.{handed-at, opened-alone, opened-left}
use Rattle.qq_broker.proofs.disk_laws.a_given_disk_was_just_opened.Goals as goal

pub returns-clause-asked : goal.returns-clause-asked
returns-clause-asked g c = λ is_given root k disk is. is.asked

pub returns-clause-opened : goal.returns-clause-opened
returns-clause-opened g c = λ is_given root k disk is tell. (
  opened-alone (g.D.NodeDisk.facts.past disk) (is.opened tell),
  opened-left (g.D.NodeDisk.facts.past disk) (is.opened tell),
)

pub returns-clause-new : goal.returns-clause-new
returns-clause-new g c = λ is_given k disk is tell. is.new tell

pub returns-clause-handed : goal.returns-clause-handed
returns-clause-handed g c = λ disks k disk is. handed-at disks k disk is
