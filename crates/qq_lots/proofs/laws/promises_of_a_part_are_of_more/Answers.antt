use Rattle.qq_lots.proofs.Writes.{promised-later, tied-promised}
use Rattle.qq_lots.proofs.laws.promises_of_a_part_are_of_more.Goals as goal

pub returns-clause-more : goal.returns-clause-more
returns-clause-more c = promised-later

pub returns-clause-tied : goal.returns-clause-tied
returns-clause-tied c = tied-promised
