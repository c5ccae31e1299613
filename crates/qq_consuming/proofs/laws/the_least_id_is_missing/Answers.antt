use Rattle.qq_consuming.proofs.HistoryLaws.{is-missing, least-missing}
use Rattle.qq_consuming.proofs.laws.the_least_id_is_missing.Goals as goal

pub returns-clause-missing : goal.returns-clause-missing
returns-clause-missing c = is-missing

pub returns-clause-least : goal.returns-clause-least
returns-clause-least c = least-missing
