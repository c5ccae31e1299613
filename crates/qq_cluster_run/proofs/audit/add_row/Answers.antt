use Rattle.std.proofs.Common.{◌++◌, List, ℕ, subst}
use Rattle.qq_script.specs.Audit.{row_text}
use Rattle.qq_cluster_run.specs.Pieces.{HasSomePrefix}
use Rattle.qq_ports.specs.Streams.{sink_state}
use Rattle.qq_cluster_run.proofs.Pieces.{nothing}
use Rattle.qq_cluster_run.proofs.audit.add_row.Goals as goal

pub returns-in-Err-clause-err : goal.returns-in-Err-clause-err
returns-in-Err-clause-err g c =
    let text = c.args.text.now.items ++ row_text c.args.row.now in
    (text, nothing (sink_state g.O.Sink.written g.O.Sink.faults c.args.output.now) text)

pub returns-in-Err-drain-clause-err : goal.returns-in-Err-drain-clause-err
returns-in-Err-drain-clause-err g c =
    let before = sink_state g.O.Sink.written g.O.Sink.faults c.args.output.now in
    let after = sink_state g.O.Sink.written g.O.Sink.faults c.drain.new.output in
    subst (λ (text : List ℕ). HasSomePrefix before after text) c.in_default.ensures.ok c.in-Err-drain.ensures.err
