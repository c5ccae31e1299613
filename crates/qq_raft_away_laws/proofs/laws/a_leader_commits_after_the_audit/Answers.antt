use Rattle.qq_raft_away_laws.proofs.Commits.{commit-after, ready-after}
use Rattle.qq_raft_away_laws.proofs.laws.a_leader_commits_after_the_audit.Goals as goal

pub returns-clause-commit : goal.returns-clause-commit
returns-clause-commit c = commit-after

pub returns-clause-ready : goal.returns-clause-ready
returns-clause-ready c = ready-after
