use Rattle.qq_ports.proofs.Counts.{counted}
use Rattle.qq_ports.proofs.yard_laws.a_failure_is_counted.Goals as goal

pub returns : goal.returns
returns c = counted
