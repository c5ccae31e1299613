use Rattle.qq_lots.proofs.Writes.{tied-same}
use Rattle.qq_node_log.proofs.Running.{moments-same, promised-same}
use Rattle.qq_node_log.proofs.laws.parts_are_compared_at_their_places.Goals as goal

pub returns-clause-promised : goal.returns-clause-promised
returns-clause-promised c = promised-same

pub returns-clause-moments : goal.returns-clause-moments
returns-clause-moments c = moments-same

pub returns-clause-tied : goal.returns-clause-tied
returns-clause-tied c = tied-same
