use Rattle.std.proofs.Common.{◌≡◌, drop}
use Rattle.qq_model.specs.Commands.{delivered_row}
use Rattle.qq_serial.proofs.rows.delivered_row.Given as goal

-- it is among the rest
abbrev pub invariant-loop-row : goal.invariant-loop-row
invariant-loop-row l = delivered_row l.consumer l.id (drop l.row-index l.rows) ≡ delivered_row l.consumer l.id l.rows
