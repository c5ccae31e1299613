use Rattle.qq_raft_model.proofs.Leads.{voted-refines}
use Rattle.qq_raft_model.proofs.laws.a_vote_is_counted_by_moves.Goals as goal

pub returns : goal.returns
returns c = λ members w k s m reached group st to way.
    voted-refines m reached group st to way
