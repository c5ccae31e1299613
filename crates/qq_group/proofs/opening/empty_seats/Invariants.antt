use Rattle.std.proofs.Common.{◌≡◌, length}
use Rattle.std.specs.Prelude.{All}
use Rattle.qq_group.specs.Opening.{IsEmpty}
use Rattle.qq_group.proofs.opening.empty_seats.Given as goal

abbrev pub invariant-seats : goal.invariant-seats
invariant-seats g l = record {
  each : All IsEmpty l.seats.items;
  count : length l.seats.items ≡ l.counter;
}
