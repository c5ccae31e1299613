use Rattle.qq_lots.proofs.Between.{between-words, leaves-between, moments-between}
use Rattle.qq_lots.proofs.laws.whatever_is_left_lies_between.Goals as goal

pub returns-clause-now : goal.returns-clause-now
returns-clause-now c = leaves-between

pub returns-clause-moments : goal.returns-clause-moments
returns-clause-moments c = moments-between

pub returns-clause-words : goal.returns-clause-words
returns-clause-words c = between-words
