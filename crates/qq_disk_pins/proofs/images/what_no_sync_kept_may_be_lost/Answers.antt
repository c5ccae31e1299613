use Rattle.qq_disk_pins.proofs.Left.{append_leaves, never_synced, any_tail}
use Rattle.qq_disk_pins.proofs.images.what_no_sync_kept_may_be_lost.Goals as goal

pub returns-clause-append : goal.returns-clause-append
returns-clause-append c = append_leaves

pub returns-clause-absent : goal.returns-clause-absent
returns-clause-absent c = never_synced

pub returns-clause-torn : goal.returns-clause-torn
returns-clause-torn c = any_tail
