use Rattle.qq_raft_protocol.proofs.Runs.{log-stays}
use Rattle.qq_raft_protocol.proofs.laws.a_leader_only_appends.Goals as goal

pub returns : goal.returns
returns c = log-stays
