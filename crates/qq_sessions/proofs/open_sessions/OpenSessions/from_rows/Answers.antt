use Rattle.qq_sessions.proofs.Holders.{no-room}
use Rattle.qq_sessions.proofs.open_sessions.OpenSessions.from_rows.Goals as goal

pub invariant_of-result : goal.invariant_of-result
invariant_of-result c = record {
  held = c.in_ok-named.ensures.ok;
  room = λ some. absurd (no-room _ c.in_ok-opened.ensures.room some);
}
