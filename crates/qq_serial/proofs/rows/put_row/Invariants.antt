use Rattle.std.proofs.Common.{◌≡◌, take, drop}
use Rattle.qq_model.specs.Changes.{put_row}
use Rattle.qq_serial.proofs.rows.put_row.Given as goal

-- the rows so far are changed, and the others are as before
abbrev pub invariant-loop-row : goal.invariant-loop-row
invariant-loop-row l = record {
  front : take l.row-index l.rows ≡ put_row l.new (take l.row-index l.initial.rows);
  rest : drop l.row-index l.rows ≡ drop l.row-index l.initial.rows;
}
