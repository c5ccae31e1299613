use Rattle.std.proofs.Common.{refl}
use Rattle.qq_cluster_pins.proofs.Asked.{told-all, told-none, waits-some}
use Rattle.qq_cluster_pins.proofs.takers.deliveries_wait_for_takers.Goals as goal

pub returns-clause-all : goal.returns-clause-all
returns-clause-all c = told-all

pub returns-clause-told : goal.returns-clause-told
returns-clause-told c = told-none

pub returns-clause-waits : goal.returns-clause-waits
returns-clause-waits c = waits-some

pub returns-clause-first : goal.returns-clause-first
returns-clause-first c = λ seats new. (refl, refl)

pub returns-clause-later : goal.returns-clause-later
returns-clause-later c = λ h more new seats. (refl, refl)
