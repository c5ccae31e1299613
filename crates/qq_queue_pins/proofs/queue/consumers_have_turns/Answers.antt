use Rattle.qq_queue_pins.proofs.Sound.{id_drawn, id_once}
use Rattle.qq_queue_pins.proofs.queue.consumers_have_turns.Goals as goal

pub returns-clause-few : goal.returns-clause-few
returns-clause-few c = λ s sound. sound.consumers.few

pub returns-clause-turn : goal.returns-clause-turn
returns-clause-turn c = λ s a b sound. sound.consumers.turns a b

pub returns-clause-drawn : goal.returns-clause-drawn
returns-clause-drawn c = λ s one sound. sound.consumers.drawn one

pub returns-clause-busy : goal.returns-clause-busy
returns-clause-busy c = λ s one sound. sound.consumers.busy one

pub returns-clause-tag : goal.returns-clause-tag
returns-clause-tag c = λ s one sound. sound.consumers.tags one

pub returns-clause-alone : goal.returns-clause-alone
returns-clause-alone c = λ s id sound. sound.consumers.alone id

pub returns-clause-ids : goal.returns-clause-ids
returns-clause-ids c = id_drawn

pub returns-clause-id : goal.returns-clause-id
returns-clause-id c = id_once
