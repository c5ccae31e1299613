use Rattle.std.proofs.Common.{nat_eq, if◌then◌else◌, arith}
use Rattle.qq_model.specs.declared.place.Row.{Row}
use Rattle.qq_base.proofs.InPlace.{mapped_front, mapped_rest}
use Rattle.qq_serial.proofs.rows.put_row.Goals as goal

pub loop-row-preserved : goal.loop-row-preserved
loop-row-preserved c = record {
  front =
      mapped_front (λ (row : Row). if nat_eq row.index.0 c.args.new.index.0 then c.args.new else row)
      c.args.rows.now c.loop-row.rows c.loop-row.row-index _ c.put_where.new.row (omega arith) (omega arith)
      c.loop-row.invariant.front c.loop-row.invariant.rest c.put_where.ensures;
  rest =
      mapped_rest c.args.rows.now c.loop-row.rows c.loop-row.row-index c.put_where.new.row c.loop-row.invariant.rest;
}
