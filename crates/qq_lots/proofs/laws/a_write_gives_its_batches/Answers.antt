use Rattle.qq_lots.proofs.Writes.{append-keeps, append-tied, batch-keeps, batch-lacks, lacks-first, lacks-none}
use Rattle.qq_lots.proofs.laws.a_write_gives_its_batches.Goals as goal

pub returns-clause-append : goal.returns-clause-append
returns-clause-append c = append-keeps

pub returns-clause-appended : goal.returns-clause-appended
returns-clause-appended c = append-tied

pub returns-clause-first : goal.returns-clause-first
returns-clause-first c = lacks-first

pub returns-clause-moments : goal.returns-clause-moments
returns-clause-moments c = batch-keeps

pub returns-clause-batch : goal.returns-clause-batch
returns-clause-batch c = batch-lacks

pub returns-clause-done : goal.returns-clause-done
returns-clause-done c = lacks-none
