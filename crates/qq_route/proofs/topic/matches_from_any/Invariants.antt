use Rattle.std.proofs.Common.{◌≡◌, ◌+◌, length}
use Rattle.qq_route.specs.Topic.{from_any, do_match}
use Rattle.qq_route.specs.Words.{left}
use Rattle.qq_route.proofs.topic.matches_from_any.Given as goal

-- what is left is taken where the whole is
abbrev pub invariant-places : goal.invariant-places
invariant-places l =
    from_any (do_match (left l.pattern)) (left l.key) ≡ from_any (do_match (left l.initial.pattern))
    (left l.initial.key)

abbrev pub decreases-places : goal.decreases-places
decreases-places l = length (left l.pattern) + length (left l.key)
