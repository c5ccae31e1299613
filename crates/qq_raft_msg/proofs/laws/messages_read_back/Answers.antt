use Rattle.std.proofs.Common.{◌++◌, refl}
use Rattle.qq_raft_msg.specs.Encoding.{encoding}
use Rattle.qq_raft_msg.proofs.RpcLaws.{message_again, message_alone}
use Rattle.qq_raft_msg.proofs.laws.messages_read_back.Goals as goal

pub returns-clause-again : goal.returns-clause-again
returns-clause-again c = λ r rest w. message_again r (encoding r ++ rest) rest refl w

pub returns-clause-alone : goal.returns-clause-alone
returns-clause-alone c = message_alone
