use Rattle.std.proofs.Common.{◌≡◌, drop}
use Rattle.std.specs.List.{list_all}
use Rattle.qq_model.specs.State.{is_session_within}
use Rattle.qq_sessions.proofs.opened.Opened.are_within.Given as goal

-- the rest says now what all said at first
abbrev pub invariant-rows : goal.invariant-rows
invariant-rows l = list_all is_session_within (drop l.place l.self.rows) ≡ list_all is_session_within l.self.rows
