use Rattle.std.proofs.Common.{◌≡◌, drop}
use Rattle.std.specs.Cmp.Lexicographic.{pointwise}
use Rattle.qq_entry.proofs.lists.are_same.Given as goal

-- the rest of both compares as both do
abbrev pub invariant-items : goal.invariant-items
invariant-items g l =
    pointwise g.T.Same.same (drop l.at l.a) (drop l.at l.b) ≡ pointwise g.T.Same.same l.a l.b
