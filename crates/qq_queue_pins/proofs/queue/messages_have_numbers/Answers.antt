use Rattle.qq_queue_pins.proofs.Sound.{front_drawn, back_drawn, dead_drawn, front_once, back_once, dead_once}
use Rattle.qq_queue_pins.proofs.queue.messages_have_numbers.Goals as goal

pub returns-clause-rows : goal.returns-clause-rows
returns-clause-rows c = λ s sound. sound.messages.arrivals

pub returns-clause-messages : goal.returns-clause-messages
returns-clause-messages c = λ s sound. sound.messages.messages

pub returns-clause-order : goal.returns-clause-order
returns-clause-order c = λ s sound. sound.messages.rising

pub returns-clause-applied : goal.returns-clause-applied
returns-clause-applied c = λ s sound. sound.messages.applied

pub returns-clause-fronts : goal.returns-clause-fronts
returns-clause-fronts c = front_drawn

pub returns-clause-backs : goal.returns-clause-backs
returns-clause-backs c = back_drawn

pub returns-clause-deads : goal.returns-clause-deads
returns-clause-deads c = dead_drawn

pub returns-clause-front : goal.returns-clause-front
returns-clause-front c = front_once

pub returns-clause-back : goal.returns-clause-back
returns-clause-back c = back_once

pub returns-clause-dead : goal.returns-clause-dead
returns-clause-dead c = dead_once

pub returns-clause-given : goal.returns-clause-given
returns-clause-given c = λ s sound. sound.messages.given

pub returns-clause-under_way : goal.returns-clause-under_way
returns-clause-under_way c = λ s sound. sound.messages.window

pub returns-clause-held : goal.returns-clause-held
returns-clause-held c = λ s row consumer id sound there is. sound.messages.holders row consumer id there is
