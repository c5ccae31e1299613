use Rattle.qq_dump.proofs.Shown.{files-all, files-each, files-rise}
use Rattle.qq_dump.proofs.laws.log_files_are_those_that_are_shown.Goals as goal

pub returns-clause-order : goal.returns-clause-order
returns-clause-order c = files-rise

pub returns-clause-each : goal.returns-clause-each
returns-clause-each c = files-each

pub returns-clause-all : goal.returns-clause-all
returns-clause-all c = files-all
