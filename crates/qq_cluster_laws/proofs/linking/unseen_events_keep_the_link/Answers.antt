use Rattle.qq_cluster_laws.proofs.Unseen.{unseen-follow, unseen-linked, unseen-promised}
use Rattle.qq_cluster_laws.proofs.linking.unseen_events_keep_the_link.Goals as goal

pub returns-clause-promised : goal.returns-clause-promised
returns-clause-promised c = unseen-promised

pub returns-clause-linked : goal.returns-clause-linked
returns-clause-linked c = unseen-linked

pub returns-clause-members : goal.returns-clause-members
returns-clause-members c = unseen-follow
