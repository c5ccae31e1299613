use Rattle.std.proofs.Common.{refl}
use Rattle.qq_model.specs.Gate.{turn_away}
use Rattle.qq_laws.proofs.NumeralLemmas.{ended-stays, unknown-stays}
use Rattle.qq_laws.proofs.numerals.what_is_turned_away_moves_the_mark_alone.Goals as goal

pub returns-clause-raised : goal.returns-clause-raised
unfolding turn_away
returns-clause-raised c = refl

pub returns-clause-lower : goal.returns-clause-lower
unfolding turn_away
returns-clause-lower c = refl

pub returns-clause-most : goal.returns-clause-most
unfolding turn_away
returns-clause-most c = refl

pub returns-clause-unknown : goal.returns-clause-unknown
returns-clause-unknown c = unknown-stays

pub returns-clause-ended : goal.returns-clause-ended
returns-clause-ended c = ended-stays
