use Rattle.qq_ports.proofs.Crashes.{opened_alone, opened_kept}
use Rattle.qq_ports.proofs.yard_laws.an_opened_disk_loses_nothing.Goals as goal

pub returns-clause-alone : goal.returns-clause-alone
returns-clause-alone c = opened_alone

pub returns-clause-kept : goal.returns-clause-kept
returns-clause-kept c = opened_kept
