use Rattle.qq_cluster_laws.proofs.Links.{crashed-follow, crashed-linked, failed-follow, failed-linked}
use Rattle.qq_cluster_laws.proofs.linking.a_stop_keeps_the_promise.Goals as goal

pub returns-clause-failed : goal.returns-clause-failed
returns-clause-failed c = failed-linked

pub returns-clause-crashed : goal.returns-clause-crashed
returns-clause-crashed c = crashed-linked

pub returns-clause-failed_members : goal.returns-clause-failed_members
returns-clause-failed_members c = failed-follow

pub returns-clause-crashed_members : goal.returns-clause-crashed_members
returns-clause-crashed_members c = crashed-follow
