use Rattle.std.proofs.Common.{◌≡◌, drop}
use Rattle.std.specs.Prelude.{find}
use Rattle.qq_service.specs.Next.{is_active}
use Rattle.qq_service.proofs.first_active.Given as goal

-- what is found in the rest is found in all
abbrev pub invariant-consumers : goal.invariant-consumers
invariant-consumers g l =
    let standings = g.T.Table.standings l.consumers in
    find is_active (drop l.place standings) ≡ find is_active standings
