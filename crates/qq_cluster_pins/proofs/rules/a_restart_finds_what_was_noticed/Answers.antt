use Rattle.qq_cluster_pins.proofs.Bounds.{restart-down, restart-up}
use Rattle.qq_cluster_pins.proofs.rules.a_restart_finds_what_was_noticed.Goals as goal

pub returns-clause-up : goal.returns-clause-up
returns-clause-up c = restart-up

pub returns-clause-down : goal.returns-clause-down
returns-clause-down c = restart-down
