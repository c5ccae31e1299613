use Rattle.std.proofs.Common.{List, ℕ, subst}
use Rattle.qq_cluster_run.specs.Pieces.{HasSomePrefix}
use Rattle.qq_ports.specs.Streams.{sink_state}
use Rattle.qq_cluster_run.proofs.Pieces.{some_from}
use Rattle.qq_cluster_run.proofs.audit.drain.Goals as goal

pub returns-in-Err-clause-err : goal.returns-in-Err-clause-err
returns-in-Err-clause-err g c =
    let before = sink_state g.O.Sink.written g.O.Sink.faults c.args.output.now in
    let after = sink_state g.O.Sink.written g.O.Sink.faults c.write_all.new.out in
    subst (λ (l : List ℕ). HasSomePrefix before after l) c.deref.ensures.value
    (some_from before after c.deref.result.now c.in-Err.ensures.err)
