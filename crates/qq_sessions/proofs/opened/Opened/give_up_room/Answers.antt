use Rattle.qq_sessions.proofs.OpenRows.{ids-held}
use Rattle.qq_sessions.proofs.opened.Opened.give_up_room.Goals as goal

pub invariant_of-self : goal.invariant_of-self
invariant_of-self c = (ids-held _ _ _ c.self.invariant.0.ids c.self.invariant.0.unique, c.self.invariant.1)
