use Rattle.qq_ports.proofs.Fetches.{second_fails, faults_of_two}
use Rattle.qq_ports.proofs.mem_shelf.listed_fetches_fail.Goals as goal

pub returns-clause-failed : goal.returns-clause-failed
returns-clause-failed c = second_fails

pub returns-clause-counted : goal.returns-clause-counted
returns-clause-counted c = faults_of_two
