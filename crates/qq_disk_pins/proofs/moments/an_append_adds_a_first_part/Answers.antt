use Rattle.std.proofs.Common.{inl, inr, refl}
use Rattle.qq_disk_pins.proofs.Held.{adds_first_part}
use Rattle.qq_disk_pins.proofs.moments.an_append_adds_a_first_part.Goals as goal

pub returns-clause-each : goal.returns-clause-each
returns-clause-each c = λ d file bytes count. inr (count, refl)

pub returns-clause-none : goal.returns-clause-none
returns-clause-none c = λ d file bytes. inl refl

pub returns-clause-only : goal.returns-clause-only
returns-clause-only c = adds_first_part
