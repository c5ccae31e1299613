use Rattle.qq_ports.proofs.Counted.{fails, passes, fetch_fails, fetch_passes}
use Rattle.qq_ports.proofs.laws.calls_in_memory_are_counted.Goals as goal

pub returns-clause-fails : goal.returns-clause-fails
returns-clause-fails c = fails

pub returns-clause-passes : goal.returns-clause-passes
returns-clause-passes c = passes

pub returns-clause-fetch_fails : goal.returns-clause-fetch_fails
returns-clause-fetch_fails c = fetch_fails

pub returns-clause-fetch_passes : goal.returns-clause-fetch_passes
returns-clause-fetch_passes c = fetch_passes
