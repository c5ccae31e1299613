use Rattle.std.proofs.Common.{◌≡◌, take, length}
use Rattle.qq_parts.specs.Parts.{outs}
use Rattle.qq_machine.proofs.counted.out_count.Given as goal

-- the consumers so far have so much out
abbrev pub invariant-consumers : goal.invariant-consumers
invariant-consumers l = l.count ≡ length (outs (take l.place l.consumers.roster.served))
