use Rattle.qq_node_log.proofs.Finding.{new-promised, new-whole}
use Rattle.qq_node_log.proofs.laws.a_new_disk_holds_nothing.Goals as goal

pub returns-clause-whole : goal.returns-clause-whole
returns-clause-whole g c = λ queues disk fresh told. new-whole queues (g.D.NodeDisk.facts.past disk) (fresh told)

pub returns-clause-promised : goal.returns-clause-promised
returns-clause-promised g c = new-promised
