use Rattle.qq_base.proofs.Numbers.{back8, back16, back32, back64}
use Rattle.qq_base.proofs.fields.numbers_read_back.Goals as goal

pub returns-clause-one_byte : goal.returns-clause-one_byte
returns-clause-one_byte c = back8

pub returns-clause-two_bytes : goal.returns-clause-two_bytes
returns-clause-two_bytes c = back16

pub returns-clause-four_bytes : goal.returns-clause-four_bytes
returns-clause-four_bytes c = back32

pub returns-clause-eight_bytes : goal.returns-clause-eight_bytes
returns-clause-eight_bytes c = back64
