use Rattle.std.proofs.Common.{ℕ, ap, sym, subst, leb}
use Rattle.std.specs.Global.{Vec}
use Rattle.qq_base.specs.declared.ids.QueueId.{QueueId}
use Rattle.qq_wal.specs.declared.numbers.Numbers.{Numbers}
use Rattle.qq_log.specs.Carries.{GoesOn}
use Rattle.qq_wal.specs.Numbers.{number_of}
use Rattle.qq_disk_pins.proofs.calls.appends_and_syncs_stay_in_their_file.Goals as goal

pub returns-clause-file : goal.returns-clause-file
returns-clause-file g c = λ old new same. same.header

pub returns-clause-queues : goal.returns-clause-queues
returns-clause-queues g c = λ old new carries op same.
    subst (λ (v : Vec QueueId). GoesOn v.items carries op) (sym same.queues)

pub returns-clause-numbers : goal.returns-clause-numbers
returns-clause-numbers g c = λ old new kind same. ap (λ (n : Numbers). number_of kind n) same.numbers

pub returns-clause-full : goal.returns-clause-full
returns-clause-full g c = λ old new bytes same. (ap (λ (n : ℕ). leb n bytes) same.log_bytes, same.first)
