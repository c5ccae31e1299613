use Rattle.qq_amqp_wire.proofs.SpellingLaws.{written_again, written_stands}
use Rattle.qq_amqp_wire.proofs.laws.frames_read_back.Goals as goal

pub returns-clause-again : goal.returns-clause-again
returns-clause-again c = written_again

pub returns-clause-spelled : goal.returns-clause-spelled
returns-clause-spelled c = written_stands
