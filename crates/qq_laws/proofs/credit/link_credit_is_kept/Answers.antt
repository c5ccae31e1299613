use Rattle.qq_laws.proofs.LinkCreditLemmas.{keeps_link_credit}
use Rattle.qq_laws.proofs.credit.link_credit_is_kept.Goals as goal

pub returns : goal.returns
returns c = keeps_link_credit
