use Rattle.qq_session.proofs.Ended.{prints-end}
use Rattle.qq_cluster_model.proofs.Leads.{tells-of_end}
use Rattle.qq_cluster_model.proofs.ended.ends_go_to_the_leader.Goals as goal

pub returns-clause-leader : goal.returns-clause-leader
returns-clause-leader c = tells-of_end

pub returns-clause-printed : goal.returns-clause-printed
returns-clause-printed c = prints-end
