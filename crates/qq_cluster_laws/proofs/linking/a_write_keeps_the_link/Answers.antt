use Rattle.qq_cluster_laws.proofs.Links.{write-linked, write-promised, writes-follow}
use Rattle.qq_cluster_laws.proofs.linking.a_write_keeps_the_link.Goals as goal

pub returns-clause-promised : goal.returns-clause-promised
returns-clause-promised c = write-promised

pub returns-clause-linked : goal.returns-clause-linked
returns-clause-linked c = write-linked

pub returns-clause-members : goal.returns-clause-members
returns-clause-members c = writes-follow
