use Rattle.qq_laws.proofs.RejectedLemmas.{names_limit}
use Rattle.qq_laws.proofs.ends.rejections_name_the_limit.Goals as goal

pub returns : goal.returns
returns c = names_limit
