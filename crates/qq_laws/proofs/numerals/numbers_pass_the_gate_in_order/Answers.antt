use Rattle.std.proofs.Common.{refl}
use Rattle.qq_model.specs.Gate.{gate}
use Rattle.qq_laws.proofs.NumeralLemmas.{forgotten_by, gap_by, full_by, fresh_by}
use Rattle.qq_laws.proofs.numerals.numbers_pass_the_gate_in_order.Goals as goal

pub returns-clause-forgotten : goal.returns-clause-forgotten
returns-clause-forgotten c = forgotten_by

pub returns-clause-gap : goal.returns-clause-gap
returns-clause-gap c = gap_by

pub returns-clause-full : goal.returns-clause-full
returns-clause-full c = full_by

pub returns-clause-fresh : goal.returns-clause-fresh
returns-clause-fresh c = fresh_by

pub returns-clause-answered : goal.returns-clause-answered
unfolding gate
returns-clause-answered c = refl

pub returns-clause-opened : goal.returns-clause-opened
unfolding gate
returns-clause-opened c = refl
