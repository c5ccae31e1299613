use Rattle.std.proofs.Common.{refl}
use Rattle.qq_wal.specs.Running.{numbers_read}
use Rattle.qq_disk_pins.proofs.Torn.{apart-none, none-apart, torn-unread}
use Rattle.qq_disk_pins.proofs.unread.recovery_removes_the_logs_that_it_does_not_read.Goals as goal

pub returns-clause-kind : goal.returns-clause-kind
returns-clause-kind c = λ queues d file unread.
    (unread.kind, unread.listed, none-apart (numbers_read queues d) file.number unread.outside)

pub returns-clause-each : goal.returns-clause-each
returns-clause-each c = λ queues d n listed apart.
    record { kind = refl; listed = listed; outside = apart-none (numbers_read queues d) n apart }

pub returns-clause-torn : goal.returns-clause-torn
returns-clause-torn c = torn-unread
