use Rattle.qq_wal.proofs.Causes.{append-cause, gather-cause, roll-cause, sync-cause}
use Rattle.qq_wal.proofs.laws.the_log_tells_why_it_refuses.Goals as goal

pub returns-clause-gather : goal.returns-clause-gather
returns-clause-gather c = gather-cause

pub returns-clause-sync : goal.returns-clause-sync
returns-clause-sync c = sync-cause

pub returns-clause-append : goal.returns-clause-append
returns-clause-append c = append-cause

pub returns-clause-roll : goal.returns-clause-roll
returns-clause-roll c = roll-cause
