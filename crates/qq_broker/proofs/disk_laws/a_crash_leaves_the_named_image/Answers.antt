use Rattle.qq_broker.specs.Lives.{ByHand, under}
use Rattle.qq_broker.proofs.Histories.{hand-leaves, yard-leaves}
use Rattle.qq_broker.proofs.disk_laws.a_crash_leaves_the_named_image.Goals as goal

pub returns-clause-yard : goal.returns-clause-yard
returns-clause-yard g c = λ is_given root setup early since k image last calm became.
    yard-leaves (under is_given root) g.D.NodeDisk.facts setup k early since image last (λ hand. hand) calm became

pub returns-clause-hand : goal.returns-clause-hand
returns-clause-hand g c = λ disks setup early since k image last calm became.
    hand-leaves (ByHand disks) g.D.NodeDisk.facts setup k early since image last calm became
