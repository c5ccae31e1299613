use Rattle.qq_cluster_model.proofs.Listening.{listeners-hear, nobody-hears, same-held}
use Rattle.qq_cluster_model.proofs.takers.who_listens_hears_what_is_told.Goals as goal

pub returns-clause-heard : goal.returns-clause-heard
returns-clause-heard c = listeners-hear

pub returns-clause-nobody : goal.returns-clause-nobody
returns-clause-nobody c = nobody-hears

pub returns-clause-held : goal.returns-clause-held
returns-clause-held c = same-held
