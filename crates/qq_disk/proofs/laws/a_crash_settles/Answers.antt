use Rattle.qq_disk.proofs.Crashes.{image_again, image_alone, image_shown}
use Rattle.qq_disk.proofs.laws.a_crash_settles.Goals as goal

pub returns-clause-same : goal.returns-clause-same
returns-clause-same c = image_again

pub returns-clause-alone : goal.returns-clause-alone
returns-clause-alone c = image_alone

pub returns-clause-reads : goal.returns-clause-reads
returns-clause-reads c = image_shown
