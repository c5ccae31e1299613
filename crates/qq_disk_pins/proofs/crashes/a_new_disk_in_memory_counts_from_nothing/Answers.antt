use Rattle.qq_disk_pins.proofs.Fresh.{fresh_works, fresh_calls, fresh_faults}
use Rattle.qq_disk_pins.proofs.crashes.a_new_disk_in_memory_counts_from_nothing.Goals as goal

pub returns-clause-calls : goal.returns-clause-calls
returns-clause-calls c = fresh_calls

pub returns-clause-faults : goal.returns-clause-faults
returns-clause-faults c = fresh_faults

pub returns-clause-works : goal.returns-clause-works
returns-clause-works c = fresh_works
