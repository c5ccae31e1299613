use Rattle.std.proofs.Common.{◌++◌, List, ℕ, ap, subst}
use Rattle.std.proofs.lemmas.Result.{on_err_weaker}
use Rattle.std.specs.Prelude.{OnErr}
use Rattle.qq_ports.specs.Faults.{AppendsPrefix}
use Rattle.qq_cluster_run.specs.Endings.{Ending, name_text, number_text}
use Rattle.qq_cluster_run.proofs.Prefixes.{prefix_then}
use Rattle.qq_cluster_run.proofs.ending.Ending.write.Goals as goal

pub returns-clause-err : goal.returns-clause-err
returns-clause-err g c =
    let written = g.O.Sink.written in
    let i = c.self.inside in
    subst (λ (text : List ℕ). OnErr c.write_numbers.result
    (AppendsPrefix (written c.args.output.now) (written c.write_numbers.new.output) text))
    (ap (λ (e : Ending). e.text) c.self.view_is)
    (on_err_weaker c.write_numbers.result
    (λ h. prefix_then (written c.args.output.now) (written c.write_front.new.output)
    (written c.write_numbers.new.output)
    ((i.start.now ++ number_text i.node) ++ (i.gap.now ++ name_text i.name))
    ((i.before.now ++ number_text i.first) ++ ((i.between.now ++ number_text i.second) ++ i.end.now))
    c.in_default.ensures.ok h)
    c.write_numbers.ensures.err)
