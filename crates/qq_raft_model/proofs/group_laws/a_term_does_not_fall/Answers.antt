use Rattle.qq_raft_model.proofs.Terms.{event-rises}
use Rattle.qq_raft_model.proofs.group_laws.a_term_does_not_fall.Goals as goal

pub returns : goal.returns
returns c = λ g e k s t up there. event-rises e g k s t up there
