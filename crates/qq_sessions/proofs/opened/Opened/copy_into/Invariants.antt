use Rattle.std.proofs.Common.{◌≡◌, None, take}
use Rattle.qq_sessions.proofs.opened.Opened.copy_into.Given as goal

-- the sessions so far are copied, and there is room for none
abbrev pub invariant-rows : goal.invariant-rows
invariant-rows l = (l.twin.rows ≡ take l.place l.self.rows) × (l.twin.room ≡ None)
