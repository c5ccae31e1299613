use Rattle.std.proofs.Common.{arith}
use Rattle.qq_cluster_pins.proofs.Halves.{counts}
use Rattle.qq_cluster_pins.proofs.counts.a_majority_is_more_than_half.Goals as goal

pub returns-clause-of_one : goal.returns-clause-of_one
returns-clause-of_one c = λ peers passes is.
    counts 1 1 (omega arith) (omega arith) peers passes (omega (arith, is))

pub returns-clause-of_two : goal.returns-clause-of_two
returns-clause-of_two c = λ peers passes is.
    counts 2 2 (omega arith) (omega arith) peers passes (omega (arith, is))

pub returns-clause-of_three : goal.returns-clause-of_three
returns-clause-of_three c = λ peers passes is.
    counts 3 2 (omega arith) (omega arith) peers passes (omega (arith, is))

pub returns-clause-of_four : goal.returns-clause-of_four
returns-clause-of_four c = λ peers passes is.
    counts 4 3 (omega arith) (omega arith) peers passes (omega (arith, is))

pub returns-clause-of_five : goal.returns-clause-of_five
returns-clause-of_five c = λ peers passes is.
    counts 5 3 (omega arith) (omega arith) peers passes (omega (arith, is))

pub returns-clause-of_six : goal.returns-clause-of_six
returns-clause-of_six c = λ peers passes is.
    counts 6 4 (omega arith) (omega arith) peers passes (omega (arith, is))

pub returns-clause-of_seven : goal.returns-clause-of_seven
returns-clause-of_seven c = λ peers passes is.
    counts 7 4 (omega arith) (omega arith) peers passes (omega (arith, is))
