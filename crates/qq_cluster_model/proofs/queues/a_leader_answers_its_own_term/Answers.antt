use Rattle.qq_cluster_model.proofs.Leads.{no-effects, rows-own}
use Rattle.qq_cluster_model.proofs.queues.a_leader_answers_its_own_term.Goals as goal

pub returns-clause-rows : goal.returns-clause-rows
returns-clause-rows c = rows-own

pub returns-clause-effects : goal.returns-clause-effects
returns-clause-effects c = no-effects
