use Rattle.std.proofs.Common.{refl}
use Rattle.std.specs.Fmt.{digits}
use Rattle.qq_drill.proofs.laws.nodes_crash_in_a_write.Goals as goal

pub returns-clause-crash : goal.returns-clause-crash
unfolding digits
returns-clause-crash c = refl
