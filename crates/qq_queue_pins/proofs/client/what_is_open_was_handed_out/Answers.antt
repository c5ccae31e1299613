use Rattle.qq_queue_pins.proofs.LowMark.{open_drawn, open_stamp}
use Rattle.qq_queue_pins.proofs.client.what_is_open_was_handed_out.Goals as goal

pub returns-clause-counted : goal.returns-clause-counted
returns-clause-counted c = λ n numbering. numbering.positive

pub returns-clause-within : goal.returns-clause-within
returns-clause-within c = λ n numbering. numbering.within

pub returns-clause-few : goal.returns-clause-few
returns-clause-few c = λ n numbering. numbering.few

pub returns-clause-open : goal.returns-clause-open
returns-clause-open c = open_drawn

pub returns-clause-stamp : goal.returns-clause-stamp
returns-clause-stamp c = open_stamp
