use Rattle.qq_lots.proofs.Writes.{crashed-keeps}
use Rattle.qq_lots.proofs.laws.a_crash_keeps_what_was_promised.Goals as goal

pub returns : goal.returns
returns c = crashed-keeps
