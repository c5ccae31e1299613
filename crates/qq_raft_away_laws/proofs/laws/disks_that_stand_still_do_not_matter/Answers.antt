use Rattle.qq_raft_away_laws.proofs.Still.{still-allowed, still-differs}
use Rattle.qq_raft_away_laws.proofs.laws.disks_that_stand_still_do_not_matter.Goals as goal

pub returns-clause-allowed : goal.returns-clause-allowed
returns-clause-allowed c = still-allowed

pub returns-clause-differs : goal.returns-clause-differs
returns-clause-differs c = still-differs
