use Rattle.std.proofs.Common.{refl}
use Rattle.qq_disk_pins.proofs.Named.{whole_left, newest_left, other_left, none_left}
use Rattle.qq_disk_pins.proofs.images.a_named_image_keeps_what_it_names.Goals as goal

pub returns-clause-whole : goal.returns-clause-whole
returns-clause-whole c = whole_left

pub returns-clause-newest : goal.returns-clause-newest
returns-clause-newest c = newest_left

pub returns-clause-other : goal.returns-clause-other
returns-clause-other c = other_left

pub returns-clause-gone : goal.returns-clause-gone
returns-clause-gone c = none_left

pub returns-clause-cut : goal.returns-clause-cut
returns-clause-cut c = λ count pending. refl

pub returns-clause-junk : goal.returns-clause-junk
returns-clause-junk c = λ junk pending. refl
