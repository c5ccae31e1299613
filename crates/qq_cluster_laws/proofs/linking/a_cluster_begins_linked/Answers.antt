use Rattle.qq_cluster_laws.proofs.Links.{begins-linked, new-follow, new-linked}
use Rattle.qq_cluster_laws.proofs.linking.a_cluster_begins_linked.Goals as goal

pub returns-clause-begins : goal.returns-clause-begins
returns-clause-begins c = begins-linked

pub returns-clause-new : goal.returns-clause-new
returns-clause-new c = new-linked

pub returns-clause-members : goal.returns-clause-members
returns-clause-members c = new-follow
