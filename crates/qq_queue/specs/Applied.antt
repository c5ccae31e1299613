-- What a step of the plain machine gives, as Raft's servers see it.
use Rattle.qq_model.specs.State.{State}
use Rattle.qq_model.specs.Step.{Step}
use Rattle.qq_raft_msg.specs.Queue.{Applied}

abbrev pub applied_of : Step → Applied State
applied_of made = record { state = made.state; fresh = made.fresh; answer = made.answer; effects = made.effects }
