use Rattle.qq_raft_model.proofs.Counting.{appended-refines}
use Rattle.qq_raft_model.proofs.laws.an_acknowledgement_is_counted_by_moves.Goals as goal

pub returns : goal.returns
returns c = λ members w k s m reached group st way.
    appended-refines m reached group st way
