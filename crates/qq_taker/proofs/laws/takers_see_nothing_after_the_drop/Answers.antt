use Rattle.std.proofs.Common.{refl}
use Rattle.qq_taker.specs.Takers.{Gone, Held, hand, look}
use Rattle.qq_taker.proofs.Places.{change-twice}
use Rattle.qq_taker.proofs.laws.takers_see_nothing_after_the_drop.Goals as goal

pub returns-clause-sees : goal.returns-clause-sees
returns-clause-sees c =
    λ all number delivery verdict. change-twice (look delivery verdict) (λ (held : Held). Gone) (λ held. refl) number all

pub returns-clause-given : goal.returns-clause-given
returns-clause-given c = λ all number. change-twice hand (λ (held : Held). Gone) (λ held. refl) number all
