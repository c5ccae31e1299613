use Rattle.qq_cluster_pins.proofs.Bounds.{notice-down, notice-is, notice-none, sync-down, sync-rolls, sync-waits, write-down, write-none, write-waits}
use Rattle.qq_cluster_pins.proofs.rules.a_disk_fails_where_it_is_called.Goals as goal

pub returns-clause-writes : goal.returns-clause-writes
returns-clause-writes c = write-waits

pub returns-clause-nothing : goal.returns-clause-nothing
returns-clause-nothing c = write-none

pub returns-clause-syncs : goal.returns-clause-syncs
returns-clause-syncs c = sync-waits

pub returns-clause-rolls : goal.returns-clause-rolls
returns-clause-rolls c = sync-rolls

pub returns-clause-notices : goal.returns-clause-notices
returns-clause-notices c = notice-is

pub returns-clause-noticed : goal.returns-clause-noticed
returns-clause-noticed c = notice-none

pub returns-clause-down : goal.returns-clause-down
returns-clause-down c = λ setup k place d events down.
    (write-down setup k d events down, sync-down setup k d events down, notice-down k place d events down)
