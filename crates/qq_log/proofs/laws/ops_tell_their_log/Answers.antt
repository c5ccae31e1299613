use Rattle.qq_log.proofs.StableLaws.{ops_know, ops_name}
use Rattle.qq_log.proofs.laws.ops_tell_their_log.Goals as goal

pub returns-clause-entries : goal.returns-clause-entries
returns-clause-entries c = ops_know

pub returns-clause-segments : goal.returns-clause-segments
returns-clause-segments c = ops_name
