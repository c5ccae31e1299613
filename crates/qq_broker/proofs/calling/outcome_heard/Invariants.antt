use Rattle.std.proofs.Common.{◌≡◌, drop}
use Rattle.qq_broker.specs.Calling.{outcome_heard}
use Rattle.qq_broker.proofs.calling.outcome_heard.Given as goal

-- the rest says what all says
abbrev pub invariant-list : goal.invariant-list
invariant-list l = outcome_heard l.list ≡ outcome_heard (drop l.heard-index l.list)
