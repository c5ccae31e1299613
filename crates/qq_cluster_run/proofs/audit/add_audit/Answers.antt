use Rattle.std.proofs.Common.{◌++◌}
use Rattle.qq_script.specs.Audit.{audit_text}
use Rattle.qq_ports.specs.Streams.{sink_state}
use Rattle.qq_cluster_run.proofs.Pieces.{nothing}
use Rattle.qq_cluster_run.proofs.audit.add_audit.Goals as goal

pub returns-in-Err-clause-err : goal.returns-in-Err-clause-err
returns-in-Err-clause-err g c =
    let text = c.args.text.now.items ++ audit_text c.args.name.now 0 (g.R.Rows.left c.args.rows.now) in
    (text, nothing (sink_state g.O.Sink.written g.O.Sink.faults c.args.output.now) text)
