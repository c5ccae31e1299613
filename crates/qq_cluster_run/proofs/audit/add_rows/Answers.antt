use Rattle.std.proofs.Common.{◌++◌, List, Option, length, flat_map, ap, subst, arith}
use Rattle.qq_entry.specs.declared.audit.AuditRow.{AuditRow}
use Rattle.qq_script.specs.Audit.{row_text}
use Rattle.qq_cluster_run.specs.Pieces.{IsNextRow}
use Rattle.qq_ports.specs.Streams.{sink_state}
use Rattle.qq_cluster_run.proofs.Pieces.{next_row, join, some_next}
use Rattle.qq_cluster_run.proofs.audit.add_rows.Goals as goal

pub returns-in-Err-add_row-clause-err : goal.returns-in-Err-add_row-clause-err
returns-in-Err-add_row-clause-err g c =
    let written = sink_state g.O.Sink.written g.O.Sink.faults in
    let left = g.R.Rows.left in
    let row = c.in-Ok-Some.row in
    let text = c.args.text.now.items ++ flat_map row_text (left c.args.rows.now) in
    let next = subst (λ (o : Option AuditRow). IsNextRow (left c.rows.rows) o (left c.next.new.self))
    c.in-Ok-Some.field-0-is c.in-Ok-Some.ensures.ok in
    let so = next_row (written c.args.output.now) (written c.rows.output) text c.rows.text.items
    (left c.rows.rows) (left c.next.new.self) row next c.rows.invariant.so in
    some_next (written c.args.output.now) (written c.rows.output) (written c.add_row.new.output) text
    (c.rows.text.items ++ row_text row) (flat_map row_text (left c.next.new.self)) so c.in-Err-add_row.ensures.err

pub rows-preserved : goal.rows-preserved
rows-preserved g c =
    let written = sink_state g.O.Sink.written g.O.Sink.faults in
    let left = g.R.Rows.left in
    let row = c.in-Ok-Some.row in
    let text = c.args.text.now.items ++ flat_map row_text (left c.args.rows.now) in
    let next = subst (λ (o : Option AuditRow). IsNextRow (left c.rows.rows) o (left c.next.new.self))
    c.in-Ok-Some.field-0-is c.in-Ok-Some.ensures.ok in
    let so = next_row (written c.args.output.now) (written c.rows.output) text c.rows.text.items
    (left c.rows.rows) (left c.next.new.self) row next c.rows.invariant.so in
    record {
      so = join (written c.args.output.now) (written c.rows.output) (written c.add_row.new.output) text
          (c.rows.text.items ++ row_text row) c.add_row.new.text.items (flat_map row_text (left c.next.new.self)) so
          c.in-Ok.ensures.ok;
      left = omega (
        arith,
        c.rows.invariant.left,
        ap (λ (rows : List AuditRow). length rows) next,
      );
      later = omega (arith, c.rows.invariant.later, c.in-Ok.ensures.later);
    }
