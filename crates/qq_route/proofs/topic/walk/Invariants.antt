use Rattle.std.proofs.Common.{◌≡◌, length}
use Rattle.qq_route.specs.Walk.{walk}
use Rattle.qq_route.specs.Words.{left}
use Rattle.qq_route.proofs.topic.walk.Given as goal

-- the rest of the walk is the walk
abbrev pub invariant-words : goal.invariant-words
invariant-words l = walk (left l.pattern) (left l.key) ≡ walk (left l.initial.pattern) (left l.initial.key)

abbrev pub decreases-words : goal.decreases-words
decreases-words l = length (left l.pattern)
