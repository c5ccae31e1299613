use Rattle.qq_lots.proofs.Writes.{rolled-tied, stays-keeps, synced-tied}
use Rattle.qq_lots.proofs.laws.a_sync_keeps_all_that_was_given.Goals as goal

pub returns-clause-moments : goal.returns-clause-moments
returns-clause-moments c = stays-keeps

pub returns-clause-synced : goal.returns-clause-synced
returns-clause-synced c = synced-tied

pub returns-clause-rolled : goal.returns-clause-rolled
returns-clause-rolled c = rolled-tied
