use Rattle.qq_ports.proofs.Counts.{second_fails, faults_of_two}
use Rattle.qq_ports.proofs.yard_laws.listed_calls_fail.Goals as goal

pub returns-clause-failed : goal.returns-clause-failed
returns-clause-failed c = second_fails

pub returns-clause-counted : goal.returns-clause-counted
returns-clause-counted c = faults_of_two
