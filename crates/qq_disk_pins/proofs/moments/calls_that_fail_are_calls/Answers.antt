use Rattle.qq_disk_pins.proofs.Runs.{may_hold, after_some}
use Rattle.qq_disk_pins.proofs.moments.calls_that_fail_are_calls.Goals as goal

pub returns-clause-ok : goal.returns-clause-ok
returns-clause-ok c = may_hold

pub returns-clause-each : goal.returns-clause-each
returns-clause-each c = after_some
