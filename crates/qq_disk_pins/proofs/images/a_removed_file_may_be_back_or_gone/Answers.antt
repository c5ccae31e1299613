use Rattle.qq_disk_pins.proofs.Left.{removed_back, removed_gone, removed_no_other}
use Rattle.qq_disk_pins.proofs.images.a_removed_file_may_be_back_or_gone.Goals as goal

pub returns-clause-back : goal.returns-clause-back
returns-clause-back c = removed_back

pub returns-clause-gone : goal.returns-clause-gone
returns-clause-gone c = removed_gone

pub returns-clause-no_other : goal.returns-clause-no_other
returns-clause-no_other c = removed_no_other
