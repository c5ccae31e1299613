use Rattle.std.proofs.Common.{arith}
use Rattle.qq_cluster_pins.proofs.Halves.{logs}
use Rattle.qq_cluster_pins.proofs.counts.a_majority_of_logs_is_more_than_half.Goals as goal

pub returns-clause-of_one : goal.returns-clause-of_one
returns-clause-of_one c = logs 1 1 (omega arith) (omega arith)

pub returns-clause-of_two : goal.returns-clause-of_two
returns-clause-of_two c = logs 2 2 (omega arith) (omega arith)

pub returns-clause-of_three : goal.returns-clause-of_three
returns-clause-of_three c = logs 3 2 (omega arith) (omega arith)

pub returns-clause-of_four : goal.returns-clause-of_four
returns-clause-of_four c = logs 4 3 (omega arith) (omega arith)

pub returns-clause-of_five : goal.returns-clause-of_five
returns-clause-of_five c = logs 5 3 (omega arith) (omega arith)

pub returns-clause-of_six : goal.returns-clause-of_six
returns-clause-of_six c = logs 6 4 (omega arith) (omega arith)

pub returns-clause-of_seven : goal.returns-clause-of_seven
returns-clause-of_seven c = logs 7 4 (omega arith) (omega arith)
