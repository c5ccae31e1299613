use Rattle.qq_cluster_model.proofs.Leads.{finds-no_leader, full, lost, opened, reaches, resends-silent}
use Rattle.qq_cluster_model.proofs.queues.commands_go_to_the_leader.Goals as goal

pub returns-clause-opened : goal.returns-clause-opened
returns-clause-opened c = opened

pub returns-clause-led : goal.returns-clause-led
returns-clause-led c = reaches

pub returns-clause-lost : goal.returns-clause-lost
returns-clause-lost c = lost

pub returns-clause-full : goal.returns-clause-full
returns-clause-full c = full

pub returns-clause-again : goal.returns-clause-again
returns-clause-again c = resends-silent

pub returns-clause-again_lost : goal.returns-clause-again_lost
returns-clause-again_lost c = finds-no_leader
