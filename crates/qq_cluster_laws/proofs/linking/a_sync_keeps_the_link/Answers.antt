use Rattle.qq_cluster_laws.proofs.Links.{sync-linked, sync-promised}
use Rattle.qq_cluster_laws.proofs.linking.a_sync_keeps_the_link.Goals as goal

pub returns-clause-promised : goal.returns-clause-promised
returns-clause-promised c = sync-promised

pub returns-clause-linked : goal.returns-clause-linked
returns-clause-linked c = sync-linked

pub returns-clause-members : goal.returns-clause-members
returns-clause-members c = λ setup d k follow. follow
