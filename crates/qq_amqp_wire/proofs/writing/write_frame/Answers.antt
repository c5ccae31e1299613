use Rattle.qq_amqp_wire.proofs.SpellingLaws.{written_again}
use Rattle.qq_amqp_wire.proofs.writing.write_frame.Goals as goal

pub returns-clause-again : goal.returns-clause-again
returns-clause-again c = λ max rest writable within. written_again max c.args.frame.now rest writable within
