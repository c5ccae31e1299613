use Rattle.qq_raft_msg.proofs.RpcLaws.{same_message}
use Rattle.qq_raft_msg.proofs.laws.no_message_begins_another.Goals as goal

pub returns : goal.returns
returns c = same_message
