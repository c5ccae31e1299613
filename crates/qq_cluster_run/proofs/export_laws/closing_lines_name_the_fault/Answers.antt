use Rattle.std.proofs.Common.{refl}
use Rattle.std.specs.Fmt.{digits}
use Rattle.qq_cluster_run.proofs.export_laws.closing_lines_name_the_fault.Goals as goal

pub returns-clause-json : goal.returns-clause-json
returns-clause-json c = refl

pub returns-clause-object : goal.returns-clause-object
returns-clause-object c = refl

pub returns-clause-missing : goal.returns-clause-missing
returns-clause-missing c = λ path. refl

pub returns-clause-argument : goal.returns-clause-argument
returns-clause-argument c = λ name. refl

pub returns-clause-unsupported : goal.returns-clause-unsupported
returns-clause-unsupported c = λ name. refl

pub returns-clause-policies : goal.returns-clause-policies
returns-clause-policies c = refl

pub returns-clause-target : goal.returns-clause-target
returns-clause-target c = λ name. refl

pub returns-clause-limit : goal.returns-clause-limit
returns-clause-limit c = λ count. refl

pub returns-clause-made : goal.returns-clause-made
unfolding digits
returns-clause-made c = refl

pub returns-clause-none : goal.returns-clause-none
returns-clause-none c = refl
