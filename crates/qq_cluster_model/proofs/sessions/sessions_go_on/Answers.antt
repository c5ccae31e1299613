use Rattle.qq_cluster_model.proofs.Numbers.{counts-deeds}
use Rattle.qq_cluster_model.proofs.SessionLaws.{session-answered}
use Rattle.qq_cluster_model.proofs.sessions.sessions_go_on.Goals as goal

pub returns-clause-answered : goal.returns-clause-answered
returns-clause-answered c = session-answered c.commands_are_answered_once.ensures

pub returns-clause-numbers : goal.returns-clause-numbers
returns-clause-numbers c = counts-deeds
