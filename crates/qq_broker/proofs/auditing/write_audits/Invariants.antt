use Rattle.std.proofs.Common.{◌≤◌}
use Rattle.qq_ports.specs.Streams.{sink_state}
use Rattle.qq_broker.proofs.Audited.{AuditsOn}
use Rattle.qq_broker.proofs.auditing.write_audits.Given as goal

-- all was written but what stands in the text, and the audits of the queues that are left
abbrev pub invariant-loop-row : goal.invariant-loop-row
invariant-loop-row g l = record {
  so :
      AuditsOn g.D.NodeDisk.facts l.setup l.nodes (sink_state g.O.Sink.written g.O.Sink.faults l.fn.output)
      (sink_state g.O.Sink.written g.O.Sink.faults l.output)
      l.text.items l.rows l.row-index;
  later : g.O.Sink.faults l.fn.output ≤ g.O.Sink.faults l.output;
}
