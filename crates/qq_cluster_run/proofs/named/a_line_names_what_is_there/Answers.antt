use Rattle.qq_cluster_run.proofs.QueueRows.{rows-are}
use Rattle.qq_cluster_run.proofs.Said.{read-named}
use Rattle.qq_cluster_run.proofs.named.a_line_names_what_is_there.Goals as goal

pub returns-clause-named : goal.returns-clause-named
returns-clause-named c = λ s logs number line said are is. read-named s logs number line said are is

pub returns-clause-runnable : goal.returns-clause-runnable
returns-clause-runnable c = rows-are
