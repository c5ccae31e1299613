use Rattle.std.proofs.Common.{◌≡◌, ◌≤◌, ◌+◌, ◌++◌, flat_map, length}
use Rattle.qq_script.specs.Audit.{row_text}
use Rattle.qq_ports.specs.Streams.{sink_state}
use Rattle.qq_cluster_run.specs.Pieces.{HasPrefix}
use Rattle.qq_cluster_run.proofs.audit.add_rows.Given as goal

-- all was written but what stands in the text, and the rows that are left: as many as the loop has yet to add
abbrev pub invariant-rows : goal.invariant-rows
invariant-rows g l = record {
  so :
      HasPrefix (sink_state g.O.Sink.written g.O.Sink.faults l.fn.output)
      (sink_state g.O.Sink.written g.O.Sink.faults l.output)
      (l.fn.text.items ++ flat_map row_text (g.R.Rows.left l.fn.rows))
      (l.text.items ++ flat_map row_text (g.R.Rows.left l.rows));
  left : l._at + length (g.R.Rows.left l.rows) ≡ l.count;
  later : g.O.Sink.faults l.fn.output ≤ g.O.Sink.faults l.output;
}
