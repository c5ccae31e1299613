use Rattle.std.proofs.Common.{ℕ}
use Rattle.qq_wal_record.proofs.Places.{Leads}
use Rattle.qq_wal_record.proofs.ahead.bodies_at.Given as goal

abbrev pub invariant-bodies : goal.invariant-bodies
invariant-bodies l = (file : ℕ) → Leads file l.bytes l.found.items l.rest
