use Rattle.qq_laws.proofs.Repeats.{marks_rise}
use Rattle.qq_laws.proofs.sessions.marks_only_rise.Goals as goal

pub returns : goal.returns
returns c = marks_rise
