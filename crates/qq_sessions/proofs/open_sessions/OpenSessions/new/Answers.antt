use Rattle.qq_sessions.proofs.Holders.{holds-none, no-room}
use Rattle.qq_sessions.proofs.open_sessions.OpenSessions.new.Goals as goal

pub invariant_of-result : goal.invariant_of-result
invariant_of-result c = record {
  held = holds-none _ _ c.new.ensures.rows c.new-2.ensures;
  room = λ some. absurd (no-room _ c.new.ensures.room some);
}
