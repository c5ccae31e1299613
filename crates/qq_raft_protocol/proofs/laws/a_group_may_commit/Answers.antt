use Rattle.qq_raft_protocol.proofs.Example.{election-allowed, replication-allowed, replication-commits}
use Rattle.qq_raft_protocol.proofs.laws.a_group_may_commit.Goals as goal

pub returns-clause-election : goal.returns-clause-election
returns-clause-election c = election-allowed

pub returns-clause-replication : goal.returns-clause-replication
returns-clause-replication c = replication-allowed

pub returns-clause-audit : goal.returns-clause-audit
returns-clause-audit c = replication-commits
