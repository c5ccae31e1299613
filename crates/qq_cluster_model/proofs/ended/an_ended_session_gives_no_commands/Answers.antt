use Rattle.qq_cluster_model.proofs.Numbers.{stays-ended}
use Rattle.qq_cluster_model.proofs.Stopping.{gives-none}
use Rattle.qq_cluster_model.proofs.ended.an_ended_session_gives_no_commands.Goals as goal

pub returns-clause-stays : goal.returns-clause-stays
returns-clause-stays c = stays-ended

pub returns-clause-none : goal.returns-clause-none
returns-clause-none c = gives-none
