use Rattle.std.proofs.Common.{take}
use Rattle.qq_live.specs.Indices.{Removes}
use Rattle.qq_live.proofs.live.Live.remove_all.Given as goal

-- those so far are removed
abbrev pub invariant-indices : goal.invariant-indices
invariant-indices l = Removes (take l.place l.indices) l.initial.self.indices l.self.indices
