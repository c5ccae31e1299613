use Rattle.qq_amqp_wire.proofs.SpellingLaws.{frames_alike, written_cleared}
use Rattle.qq_amqp_wire.proofs.laws.spellings_differ_in_what_is_reserved.Goals as goal

pub returns-clause-alike : goal.returns-clause-alike
returns-clause-alike c = frames_alike

pub returns-clause-cleared : goal.returns-clause-cleared
returns-clause-cleared c = written_cleared
