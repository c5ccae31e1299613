use Rattle.qq_queue_pins.proofs.Sound.{answers_of}
use Rattle.qq_queue_pins.proofs.queue.sessions_have_numbers.Goals as goal

pub returns-clause-ended : goal.returns-clause-ended
returns-clause-ended c = λ s sound. sound.sessions.ended

pub returns-clause-owners : goal.returns-clause-owners
returns-clause-owners c = λ s sound. sound.sessions.owners

pub returns-clause-alone : goal.returns-clause-alone
returns-clause-alone c = λ s sound. sound.sessions.alone

pub returns-clause-mark : goal.returns-clause-mark
returns-clause-mark c = λ s one sound there. (answers_of s one sound there).mark

pub returns-clause-answers : goal.returns-clause-answers
returns-clause-answers c = λ s one sound there. (answers_of s one sound there).kept

pub returns-clause-window : goal.returns-clause-window
returns-clause-window c = λ s one sound there. (answers_of s one sound there).window
