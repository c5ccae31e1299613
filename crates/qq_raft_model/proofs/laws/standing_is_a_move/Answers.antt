use Rattle.qq_raft_model.proofs.Standing.{tick-refines}
use Rattle.qq_raft_model.proofs.laws.standing_is_a_move.Goals as goal

pub returns : goal.returns
returns c = λ members w k s st other. tick-refines st other
