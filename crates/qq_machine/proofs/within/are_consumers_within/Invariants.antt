use Rattle.std.proofs.Common.{◌≡◌, drop}
use Rattle.std.specs.List.{list_all}
use Rattle.qq_machine.specs.Within.{is_one_within}
use Rattle.qq_machine.proofs.within.are_consumers_within.Given as goal

-- the rest says now what all said at first
abbrev pub invariant-consumers : goal.invariant-consumers
invariant-consumers l =
    list_all is_one_within (drop l.place l.consumers.roster.served)
    ≡ list_all is_one_within l.consumers.roster.served
