use Rattle.qq_ports.proofs.laws.faults_have_causes.Goals as goal

pub returns-clause-failed : goal.returns-clause-failed
returns-clause-failed c = λ before now failed rose. rose

pub returns-clause-shelf_failed : goal.returns-clause-shelf_failed
returns-clause-shelf_failed c = λ before now rose. rose

pub returns-clause-shelf_memory : goal.returns-clause-shelf_memory
returns-clause-shelf_memory c = λ before now memory want. want

pub returns-clause-too_long : goal.returns-clause-too_long
returns-clause-too_long c = λ count before now bytes rest cause. cause.0

pub returns-clause-line_memory : goal.returns-clause-line_memory
returns-clause-line_memory c = λ memory before now bytes rest want. want
