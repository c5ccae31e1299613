use Rattle.qq_sessions.proofs.Holders.{holds-still, no-room}
use Rattle.qq_sessions.proofs.open_sessions.OpenSessions.copy.Goals as goal

pub invariant_of-result : goal.invariant_of-result
invariant_of-result c = record {
  held = holds-still c.self.inside.opened.rows c.in_ok-opened.opened.rows c.self.inside.named.indices
      c.in_ok-named.named.indices c.in_ok-opened.ensures.ok c.in_ok-named.ensures.ok c.self.invariant.held;
  room = λ some. absurd (no-room _ c.in_ok-opened.ensures.room some);
}
