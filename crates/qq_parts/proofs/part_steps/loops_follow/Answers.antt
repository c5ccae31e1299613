use Rattle.qq_parts.proofs.Following.{checks_out, keeps_limits, gives_all}
use Rattle.qq_parts.proofs.part_steps.loops_follow.Goals as goal

pub returns : goal.returns
returns c = record { delivered = checks_out; limited = keeps_limits; given = gives_all }
