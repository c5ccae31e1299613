use Rattle.qq_disk_pins.proofs.Buffers.{front_read, rest_stays}
use Rattle.qq_disk_pins.proofs.readings.a_read_fills_the_front.Goals as goal

pub returns-clause-as_many : goal.returns-clause-as_many
returns-clause-as_many c = λ bytes place count old new read. read.as_many

pub returns-clause-front : goal.returns-clause-front
returns-clause-front c = front_read

pub returns-clause-rest : goal.returns-clause-rest
returns-clause-rest c = rest_stays
