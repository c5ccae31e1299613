use Rattle.qq_laws.proofs.LetterLemmas.{sends_dead_once}
use Rattle.qq_laws.proofs.dead_letters.dead_letters_are_sent_once.Goals as goal

pub returns : goal.returns
returns c = sends_dead_once
