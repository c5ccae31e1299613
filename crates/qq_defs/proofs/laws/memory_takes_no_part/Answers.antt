use Rattle.qq_route.specs.Setup.{state_of}
use Rattle.qq_defs.proofs.Reading.{answer_is, want_is}
use Rattle.qq_defs.proofs.laws.memory_takes_no_part.Goals as goal

pub returns-clause-answer : goal.returns-clause-answer
returns-clause-answer c = answer_is state_of

pub returns-clause-want : goal.returns-clause-want
returns-clause-want c = want_is state_of
