use Rattle.std.proofs.Common.{◌≡◌, take}
use Rattle.qq_sessions.specs.Named.{kept_indices}
use Rattle.qq_sessions.proofs.open_sessions.named_of.Given as goal

-- those of the sessions so far
abbrev pub invariant-rows : goal.invariant-rows
invariant-rows l = l.indices.items ≡ kept_indices (take l.place l.opened.rows)
