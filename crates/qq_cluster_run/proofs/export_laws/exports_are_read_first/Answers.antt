use Rattle.qq_cluster_run.proofs.ExportRuns.{always-refused, made-first, plain-ends, refused-by}
use Rattle.qq_cluster_run.proofs.export_laws.exports_are_read_first.Goals as goal

pub returns-clause-plain : goal.returns-clause-plain
returns-clause-plain c = plain-ends

pub returns-clause-refused : goal.returns-clause-refused
returns-clause-refused c = refused-by

pub returns-clause-always : goal.returns-clause-always
returns-clause-always c = always-refused

pub returns-clause-made : goal.returns-clause-made
returns-clause-made c = made-first
