use Rattle.qq_disk.proofs.Named.{named}
use Rattle.qq_disk.proofs.laws.a_named_image_is_one.Goals as goal

pub returns : goal.returns
returns c = named
