use Rattle.qq_disk.proofs.Crashes.{may_show}
use Rattle.qq_disk.proofs.laws.a_disk_shows_an_image.Goals as goal

pub returns : goal.returns
returns c = λ d file. may_show (d file)
