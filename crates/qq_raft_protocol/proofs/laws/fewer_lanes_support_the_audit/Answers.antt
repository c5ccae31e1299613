use Rattle.qq_raft_protocol.proofs.Fewer.{fewer-support}
use Rattle.qq_raft_protocol.proofs.laws.fewer_lanes_support_the_audit.Goals as goal

pub returns : goal.returns
returns c = fewer-support
