use Rattle.std.proofs.Common.{refl}
use Rattle.qq_cluster_run.specs.Serving.{setup_in}
use Rattle.qq_broker.specs.Nodes.{Meets}
use Rattle.qq_broker.specs.Serving.{memory_stop}
use Rattle.qq_broker.proofs.Refusing.{given-stop}
use Rattle.qq_broker.proofs.serving.go_on.Goals as goal

pub returns-in-Err-clause-cause : goal.returns-in-Err-clause-cause
returns-in-Err-clause-cause g c = λ given run number before after h.
    given-stop (Meets given g.D.NodeDisk.facts before after) (setup_in c.args.setup.now run) run.events number
    c.args.line c.in-Err.memory (memory_stop c.in-Err.memory) refl
    (c.in-Err.ensures.cause given run before after h)
