use Rattle.std.proofs.Common.{arith}
use Rattle.qq_model.specs.Commands.{purge_row}
use Rattle.qq_base.proofs.InPlace.{mapped_front, mapped_rest}
use Rattle.qq_serial.proofs.rows.purge_rows.Goals as goal

pub loop-row-preserved : goal.loop-row-preserved
loop-row-preserved c = record {
  front =
      mapped_front purge_row c.args.rows.now c.loop-row.rows c.loop-row.row-index _ c.purge_row.new.row
      (omega arith) (omega arith) c.loop-row.invariant.front c.loop-row.invariant.rest c.purge_row.ensures;
  rest =
      mapped_rest c.args.rows.now c.loop-row.rows c.loop-row.row-index c.purge_row.new.row c.loop-row.invariant.rest;
}
