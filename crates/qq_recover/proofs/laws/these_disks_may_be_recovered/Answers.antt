use Rattle.qq_recover.proofs.Promised.{opened-may, promised-may, whole-may}
use Rattle.qq_recover.proofs.laws.these_disks_may_be_recovered.Goals as goal

pub returns-clause-promised : goal.returns-clause-promised
returns-clause-promised c = promised-may

pub returns-clause-whole : goal.returns-clause-whole
returns-clause-whole c = whole-may

pub returns-clause-opened : goal.returns-clause-opened
returns-clause-opened c = opened-may
