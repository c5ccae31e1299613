use Rattle.std.proofs.Common.{refl}
use Rattle.qq_consumer.proofs.laws.these_are_the_consumers_of_parts.Goals as goal

pub returns-clause-delivers : goal.returns-clause-delivers
returns-clause-delivers c = λ m x consumer. refl

pub returns-clause-joins : goal.returns-clause-joins
returns-clause-joins c = λ m id mode. refl

pub returns-clause-changes : goal.returns-clause-changes
returns-clause-changes c = λ m new. refl

pub returns-clause-finishes : goal.returns-clause-finishes
returns-clause-finishes c = λ m. refl
