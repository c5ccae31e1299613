use Rattle.std.proofs.Common.{◌≡◌}
use Rattle.qq_runner.proofs.runner.turn_to_end.Given as goal

-- the value keeps its name
abbrev pub invariant-turns : goal.invariant-turns
invariant-turns g l = g.T.Turn.name l.value ≡ g.T.Turn.name l.fn.value
