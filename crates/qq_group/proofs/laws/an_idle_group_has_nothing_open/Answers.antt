use Rattle.qq_group.proofs.Idle.{idle-is, is-idle}
use Rattle.qq_group.proofs.laws.an_idle_group_has_nothing_open.Goals as goal

pub returns-clause-idle : goal.returns-clause-idle
returns-clause-idle g c = is-idle g.L.LogView.log c.a_log_was_handed_the_changes_of_its_server.ensures

pub returns-clause-settled : goal.returns-clause-settled
returns-clause-settled g c = idle-is g.L.LogView.log c.a_log_was_handed_the_changes_of_its_server.ensures
