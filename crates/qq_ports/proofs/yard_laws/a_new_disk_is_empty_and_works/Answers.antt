use Rattle.std.proofs.Common.{refl}
use Rattle.qq_ports.proofs.yard_laws.a_new_disk_is_empty_and_works.Goals as goal

pub returns-clause-empty : goal.returns-clause-empty
returns-clause-empty c = λ disk new. new.past

pub returns-clause-works : goal.returns-clause-works
returns-clause-works c = λ disk new. rw new.counter.fuse (rw new.counter.fails refl)
