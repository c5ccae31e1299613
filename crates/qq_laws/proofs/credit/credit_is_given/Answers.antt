use Rattle.qq_laws.proofs.GivenCredit.{credits_are_given}
use Rattle.qq_laws.proofs.credit.credit_is_given.Goals as goal

pub returns : goal.returns
returns c = credits_are_given
