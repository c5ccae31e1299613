use Rattle.std.proofs.Common.{◌≡◌, drop}
use Rattle.std.specs.Prelude.{find}
use Rattle.qq_consumer.specs.Roster.{is_one_of}
use Rattle.qq_consumer.proofs.joined.Joined.first_of.Given as goal

-- who is first of the rest is first of all
abbrev pub invariant-rows : goal.invariant-rows
invariant-rows l =
    find (is_one_of l.session) (drop l.place l.self.served) ≡ find (is_one_of l.session) l.self.served
