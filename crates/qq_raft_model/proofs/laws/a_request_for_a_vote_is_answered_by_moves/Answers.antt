use Rattle.qq_raft_model.proofs.Votes.{vote-refines}
use Rattle.qq_raft_model.proofs.laws.a_request_for_a_vote_is_answered_by_moves.Goals as goal

pub returns : goal.returns
returns c = λ members w k s m st x. vote-refines m st x
