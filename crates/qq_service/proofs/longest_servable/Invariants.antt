use Rattle.std.proofs.Common.{◌≡◌, None, drop, fold}
use Rattle.std.specs.Prelude.{nat_lt}
use Rattle.qq_model.specs.Choice.{lesser}
use Rattle.qq_service.specs.Next.{servable_turn}
use Rattle.qq_service.proofs.longest_servable.Given as goal

-- the rest gives now what all gave at first
abbrev pub invariant-consumers : goal.invariant-consumers
invariant-consumers g l =
    let standings = g.T.Table.standings l.consumers in
    fold (lesser nat_lt servable_turn) l.best (drop l.place standings) ≡ fold (lesser nat_lt servable_turn) None standings
