use Rattle.qq_recover.proofs.ChainLaws.{lanes-are}
use Rattle.qq_recover.proofs.laws.lanes_are_those_of_the_chain.Goals as goal

pub returns : goal.returns
returns c = λ queues logs. lanes-are queues (c.the_log_has_a_format.ensures queues) logs
