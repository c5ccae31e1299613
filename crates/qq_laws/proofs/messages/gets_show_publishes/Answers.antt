use Rattle.qq_laws.proofs.AnswersShow.{answers_show}
use Rattle.qq_laws.proofs.messages.gets_show_publishes.Goals as goal

pub returns : goal.returns
returns c = answers_show
