use Rattle.qq_log.proofs.StableLaws.{same_tail}
use Rattle.qq_log.proofs.laws.tails_agree.Goals as goal

pub returns : goal.returns
returns c = same_tail
