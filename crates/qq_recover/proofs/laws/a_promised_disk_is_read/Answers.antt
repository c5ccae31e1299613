use Rattle.qq_recover.proofs.Promised.{crash-readable, readable}
use Rattle.qq_recover.proofs.laws.a_promised_disk_is_read.Goals as goal

pub returns-clause-now : goal.returns-clause-now
returns-clause-now c = λ queues. readable queues (c.the_log_has_a_format.ensures queues)

pub returns-clause-crash : goal.returns-clause-crash
returns-clause-crash c = λ queues. crash-readable queues (c.the_log_has_a_format.ensures queues)
