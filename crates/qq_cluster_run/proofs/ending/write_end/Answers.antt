use Rattle.std.proofs.Common.{◌++◌}
use Rattle.std.proofs.lemmas.Result.{on_err_weaker}
use Rattle.qq_cluster_run.specs.Endings.{number_text}
use Rattle.qq_cluster_run.proofs.Prefixes.{prefix_then}
use Rattle.qq_cluster_run.proofs.ending.write_end.Goals as goal

pub returns-clause-err : goal.returns-clause-err
returns-clause-err g c =
    let written = g.O.Sink.written in
    on_err_weaker c.write_str.result
    (λ h. prefix_then (written c.args.output.now) (written c.write_number.new.output) (written c.write_str.new.output)
    (c.args.text.now ++ number_text c.args.number) (c.args.end.now) c.in_default.ensures.ok h)
    c.write_str.ensures.err
