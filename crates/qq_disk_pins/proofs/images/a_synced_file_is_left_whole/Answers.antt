use Rattle.qq_disk_pins.proofs.Left.{sync_shrinks, sync_leaves}
use Rattle.qq_disk_pins.proofs.images.a_synced_file_is_left_whole.Goals as goal

pub returns-clause-shrinks : goal.returns-clause-shrinks
returns-clause-shrinks c = sync_shrinks

pub returns-clause-whole : goal.returns-clause-whole
returns-clause-whole c = sync_leaves
