use Rattle.qq_laws.proofs.PlainAnswers.{answers_plainly}
use Rattle.qq_laws.proofs.refusals.answers_are_plain.Goals as goal

pub returns : goal.returns
returns c = answers_plainly
