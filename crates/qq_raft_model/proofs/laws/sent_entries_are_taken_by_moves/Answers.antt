use Rattle.qq_raft_model.proofs.Appends.{append-refines}
use Rattle.qq_raft_model.proofs.laws.sent_entries_are_taken_by_moves.Goals as goal

pub returns : goal.returns
returns c = λ members w k s m reached st way. append-refines m reached st way
