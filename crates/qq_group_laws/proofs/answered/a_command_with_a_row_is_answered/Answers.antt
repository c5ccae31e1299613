use Rattle.qq_group_laws.proofs.Rows.{answered}
use Rattle.qq_group_laws.proofs.answered.a_command_with_a_row_is_answered.Goals as goal

pub returns : goal.returns
returns c = λ rows row command after here is. answered command after row rows here is
