use Rattle.std.proofs.Common.{◌∙◌}
use Rattle.qq_sessions.proofs.Holders.{holds-still, no-room}
use Rattle.qq_sessions.proofs.open_sessions.OpenSessions.reserve.Goals as goal

pub invariant_of-self : goal.invariant_of-self
invariant_of-self c = record {
  held =
      holds-still c.self.inside.opened.rows _ c.self.inside.named.indices c.reserve.new.self.indices
      c.give_up_room.ensures.rows c.reserve.ensures.same c.self.invariant.held;
  room = λ some. absurd (no-room _ c.give_up_room.ensures.room some);
}

pub invariant_of-self-in_err-reserve-2 : goal.invariant_of-self-in_err-reserve-2
invariant_of-self-in_err-reserve-2 c = record {
  held =
      holds-still c.self.inside.opened.rows _ c.self.inside.named.indices c.reserve.new.self.indices
      (c.reserve-2.ensures.same ∙ c.give_up_room.ensures.rows) c.reserve.ensures.same c.self.invariant.held;
  room = λ some. c.in_ok-reserve.ensures.ok;
}

pub invariant_of-self-2 : goal.invariant_of-self-2
invariant_of-self-2 c = record {
  held =
      holds-still c.self.inside.opened.rows _ c.self.inside.named.indices c.reserve.new.self.indices
      (c.reserve-2.ensures.same ∙ c.give_up_room.ensures.rows) c.reserve.ensures.same c.self.invariant.held;
  room = λ some. c.in_ok-reserve.ensures.ok;
}
