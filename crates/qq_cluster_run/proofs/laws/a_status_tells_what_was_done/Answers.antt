use Rattle.qq_cluster_run.proofs.Statuses.{told, words_usage}
use Rattle.qq_cluster_run.proofs.laws.a_status_tells_what_was_done.Goals as goal

pub returns-clause-told : goal.returns-clause-told
returns-clause-told c = told

pub returns-clause-usage : goal.returns-clause-usage
returns-clause-usage c = words_usage
