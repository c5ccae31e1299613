use Rattle.std.proofs.Common.{◌≡◌, drop}
use Rattle.qq_recover.specs.Clearing.{has_end}
use Rattle.qq_recover.proofs.clear.has_end.Given as goal

abbrev pub invariant-loop-end : goal.invariant-loop-end
invariant-loop-end l = has_end (drop l.end-index l.chain) l.number ≡ has_end l.chain l.number
