use Rattle.std.proofs.lemmas.Result.{on_err_weaker}
use Rattle.qq_cluster_run.specs.Endings.{name_text}
use Rattle.qq_cluster_run.proofs.Prefixes.{prefix_then}
use Rattle.qq_cluster_run.proofs.ending.write_name.Goals as goal

pub returns-clause-err : goal.returns-clause-err
returns-clause-err g c =
    let written = g.O.Sink.written in
    on_err_weaker c.write_text.result
    (λ h. prefix_then (written c.args.output.now) (written c.write_str.new.output) (written c.write_text.new.output)
    (c.args.text.now) (name_text c.args.name.now) c.in_default.ensures.ok h)
    c.write_text.ensures.err
