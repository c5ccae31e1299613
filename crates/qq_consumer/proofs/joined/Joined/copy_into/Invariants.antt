use Rattle.std.proofs.Common.{◌≡◌, take}
use Rattle.qq_consumer.proofs.joined.Joined.copy_into.Given as goal

-- the consumers so far are copied
abbrev pub invariant-rows : goal.invariant-rows
invariant-rows l = l.twin.served ≡ take l.place l.self.served
