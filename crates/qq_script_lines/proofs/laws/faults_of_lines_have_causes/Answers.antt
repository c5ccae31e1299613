use Rattle.qq_script_lines.proofs.Causes.{cause_told}
use Rattle.qq_script_lines.proofs.laws.faults_of_lines_have_causes.Goals as goal

pub returns : goal.returns
returns c = cause_told
