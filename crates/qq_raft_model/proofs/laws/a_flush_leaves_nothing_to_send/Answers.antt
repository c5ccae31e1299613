use Rattle.qq_raft_model.proofs.Flushing.{all-flushed}
use Rattle.qq_raft_model.proofs.laws.a_flush_leaves_nothing_to_send.Goals as goal

pub returns : goal.returns
returns c = λ s p leads each here. all-flushed s p leads each here
