use Rattle.std.proofs.Common.{Bool, List, IsTrue, ap, sym, subst}
use Rattle.qq_disk.specs.Disk.{Disk, now}
use Rattle.qq_wal_chain.specs.Laws.{KeepsPromise}
use Rattle.qq_wal.specs.Running.{top}
use Rattle.qq_recover.specs.Reading.{shown}
use Rattle.qq_disk_pins.proofs.read.a_disk_that_was_only_read_is_as_before.Goals as goal

pub returns-clause-tells : goal.returns-clause-tells
returns-clause-tells g c = λ old new r tells. subst (λ (t : Bool). IsTrue t) (sym r.told) tells

pub returns-clause-moments : goal.returns-clause-moments
returns-clause-moments g c = λ old new r tells. r.same tells

pub returns-clause-shows : goal.returns-clause-shows
returns-clause-shows g c = λ old new r tells. ap (λ (past : List Disk). shown (now past)) (r.same tells)

pub returns-clause-promise : goal.returns-clause-promise
returns-clause-promise g c = λ queues noticed given old new r tells.
    subst (λ (past : List Disk). KeepsPromise queues top noticed given (now past)) (sym (r.same tells))
