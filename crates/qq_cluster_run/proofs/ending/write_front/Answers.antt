use Rattle.std.proofs.Common.{◌++◌}
use Rattle.std.proofs.lemmas.Result.{on_err_weaker}
use Rattle.qq_cluster_run.specs.Endings.{name_text, number_text}
use Rattle.qq_cluster_run.proofs.Prefixes.{prefix_then}
use Rattle.qq_cluster_run.proofs.ending.write_front.Goals as goal

pub returns-clause-err : goal.returns-clause-err
returns-clause-err g c =
    let written = g.O.Sink.written in
    on_err_weaker c.write_name.result
    (λ h. prefix_then (written c.args.output.now) (written c.write_number.new.output) (written c.write_name.new.output)
    (c.args.start.now ++ number_text c.args.node) (c.args.gap.now ++ name_text c.args.name.now)
    c.in_default.ensures.ok h)
    c.write_name.ensures.err
