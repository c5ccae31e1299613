use Rattle.qq_raft_model.proofs.Leading.{notice-refines}
use Rattle.qq_raft_model.proofs.laws.what_is_durable_is_noticed_by_moves.Goals as goal

pub returns : goal.returns
returns c = λ members w k s op reached group st le.
    notice-refines op reached group st le
