use Rattle.std.proofs.Common.{◌≡◌, ◌≤◌, ◌+◌, take, length}
use Rattle.qq_live.specs.Indices.{Adds}
use Rattle.qq_live.proofs.live.Live.add_all.Given as goal

-- those so far are added
abbrev pub invariant-indices : goal.invariant-indices
invariant-indices l =
    Adds (take l.place l.indices) l.initial.self.indices l.self.indices
    × (length l.self.indices ≡ length l.initial.self.indices + l.place)
    × (l.initial.self.room ≤ l.self.room + l.place)
