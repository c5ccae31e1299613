use Rattle.qq_disk_pins.proofs.InOrder.{all-told, every-has}
use Rattle.qq_disk_pins.proofs.lanes.each_queue_with_ops_has_its_lane.Goals as goal

pub returns-clause-told : goal.returns-clause-told
returns-clause-told c = all-told

pub returns-clause-every : goal.returns-clause-every
returns-clause-every c = every-has
