use Rattle.qq_raft_protocol.proofs.Runs.{safe-run}
use Rattle.qq_raft_protocol.proofs.laws.servers_agree.Goals as goal

pub returns : goal.returns
returns c = safe-run
