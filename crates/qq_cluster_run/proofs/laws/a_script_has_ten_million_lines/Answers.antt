use Rattle.qq_cluster_run.proofs.Says.{says_within, says_past}
use Rattle.qq_cluster_run.proofs.laws.a_script_has_ten_million_lines.Goals as goal

pub returns-clause-past : goal.returns-clause-past
returns-clause-past c = says_past

pub returns-clause-within : goal.returns-clause-within
returns-clause-within c = says_within
