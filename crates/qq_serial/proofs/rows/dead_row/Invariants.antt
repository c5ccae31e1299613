use Rattle.std.proofs.Common.{◌≡◌, drop}
use Rattle.qq_model.specs.Commands.{dead_row}
use Rattle.qq_serial.proofs.rows.dead_row.Given as goal

-- it is among the rest
abbrev pub invariant-loop-row : goal.invariant-loop-row
invariant-loop-row l = dead_row l.number (drop l.row-index l.rows) ≡ dead_row l.number l.rows
