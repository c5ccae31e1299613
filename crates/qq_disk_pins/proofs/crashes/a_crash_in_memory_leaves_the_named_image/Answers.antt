use Rattle.std.proofs.Common.{Option, ap, ◌∙◌}
use Rattle.qq_disk.specs.declared.name.FileName.{FileName}
use Rattle.qq_disk.specs.Crash.{reopen}
use Rattle.qq_disk.specs.Image.{image_of}
use Rattle.qq_disk_pins.proofs.Named.{one_newest}
use Rattle.qq_disk_pins.proofs.crashes.a_crash_in_memory_leaves_the_named_image.Goals as goal

pub returns : goal.returns
returns c = λ image old new newest crash is.
    crash.left ∙ ap (λ (n : Option FileName). reopen (image_of image n old))
    (one_newest old image.removed_back crash.newest newest crash.is_newest is)
