use Rattle.qq_laws.proofs.Repeats.{answers_as_first}
use Rattle.qq_laws.proofs.sessions.repeats_have_the_first_answer.Goals as goal

pub returns : goal.returns
returns c = answers_as_first
