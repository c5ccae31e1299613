use Rattle.qq_parts.proofs.Serving.{serves_all}
use Rattle.qq_parts.proofs.parts.all_checkouts_are_made.Goals as goal

pub returns : goal.returns
returns c = serves_all
