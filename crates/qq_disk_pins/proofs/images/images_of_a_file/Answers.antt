use Rattle.qq_disk.proofs.Stored.{whole_leaves}
use Rattle.qq_disk_pins.proofs.Left.{image_begins, image_absent}
use Rattle.qq_disk_pins.proofs.images.images_of_a_file.Goals as goal

pub returns-clause-whole : goal.returns-clause-whole
returns-clause-whole c = λ d file bytes i is image. whole_leaves d file bytes is i image

pub returns-clause-begins : goal.returns-clause-begins
returns-clause-begins c = image_begins

pub returns-clause-absent : goal.returns-clause-absent
returns-clause-absent c = image_absent
