use Rattle.qq_ports.proofs.Crashes.{leaves_image}
use Rattle.qq_ports.proofs.yard_laws.a_crash_leaves_an_image.Goals as goal

pub returns : goal.returns
returns c = leaves_image
