use Rattle.qq_raft_model.proofs.Steps.{step-refines}
use Rattle.qq_raft_model.proofs.laws.each_step_is_moves.Goals as goal

pub returns : goal.returns
returns c = λ members w k s input reached group st may.
    step-refines input reached group st may
