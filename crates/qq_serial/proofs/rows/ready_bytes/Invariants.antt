use Rattle.std.proofs.Common.{◌≡◌, ◌≤◌, ◌+◌, ◌*◌, ◌^◌, drop}
use Rattle.qq_model.specs.Limits.{ready_bytes}
use Rattle.qq_serial.proofs.rows.ready_bytes.Given as goal

-- the sum so far and that of the rest are the sum of all
abbrev pub invariant-loop-row : goal.invariant-loop-row
invariant-loop-row l = record {
  all : l.sum + ready_bytes (drop l.row-index l.rows) ≡ ready_bytes l.rows;
  bound : l.sum ≤ l.row-index * 2 ^ 32;
}
