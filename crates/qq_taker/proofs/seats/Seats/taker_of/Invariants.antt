use Rattle.std.proofs.Common.{◌≡◌, drop}
use Rattle.qq_taker.specs.Seats.{taker_of}
use Rattle.qq_taker.proofs.seats.Seats.taker_of.Given as goal

-- it is among the rest
abbrev pub invariant-loop-seat : goal.invariant-loop-seat
invariant-loop-seat l = taker_of l.id (drop l.seat-index l.seat-items) ≡ taker_of l.id l.seat-items
