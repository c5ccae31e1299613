use Rattle.std.proofs.Common.{refl}
use Rattle.std.specs.Fmt.{digits}
use Rattle.qq_drill.specs.Draw.{drawn, next_x}
use Rattle.qq_drill.proofs.laws.a_drill_of_seven_begins_with_a_get.Goals as goal

pub returns-clause-fourth : goal.returns-clause-fourth
unfolding digits drawn next_x
returns-clause-fourth c = refl
