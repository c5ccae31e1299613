use Rattle.std.proofs.Common.{◌≡◌, subst}
use Rattle.qq_cluster_run.specs.Serving.{setup_in}
use Rattle.qq_broker.specs.Takers.{AsksFree, AsksGone}
use Rattle.qq_broker.proofs.Gone.{always-ok, gone-caused, other-faults, others-same, run-causes}
use Rattle.qq_broker.proofs.serving.serve.Goals as goal

pub returns-then-gone-clause-gone : goal.returns-then-gone-clause-gone
returns-then-gone-clause-gone g c =
    subst (AsksGone c.args.line) c.desk.ensures (c.asks_gone-gone.ensures.gone c.if-gone.true)

pub returns-then-gone-clause-cause : goal.returns-then-gone-clause-cause
returns-then-gone-clause-cause g c = λ given first run number h seen.
    (let disk = g.Y.Disk.NodeDisk in
    let yards = g.Y.Yard.faults in
    gone-caused given disk.facts first c.args.told.now.takers (yards c.args.yard.now) (yards c.args.yard.now)
    c.args.setup.now (setup_in c.args.setup.now run) run.events number c.args.line seen
    (subst (AsksGone c.args.line) c.desk.ensures (c.asks_gone-gone.ensures.gone c.if-gone.true)))

pub returns-clause-free : goal.returns-clause-free
returns-clause-free g c =
    always-ok c.serve_free.result (AsksFree c.args.line c.args.told.now.takers)
    (subst (AsksFree c.args.line) c.desk.ensures (c.asks_gone-gone.ensures.free c.if-gone.false))

pub returns-clause-gone : goal.returns-clause-gone
returns-clause-gone g c =
    other-faults c.serve_free.result c.args.line c.args.told.now.takers
    (subst (AsksFree c.args.line) c.desk.ensures (c.asks_gone-gone.ensures.free c.if-gone.false))
    c.serve_free.ensures.other

pub returns-clause-same : goal.returns-clause-same
returns-clause-same g c =
    others-same c.serve_free.result (c.serve_free.new.told ≡ c.args.told.now) c.serve_free.ensures.other

pub returns-clause-cause : goal.returns-clause-cause
returns-clause-cause g c = λ given first run number h seen.
    (let disk = g.Y.Disk.NodeDisk in
    let yards = g.Y.Yard.faults in
    run-causes given disk.facts first (yards c.args.yard.now) (yards c.serve_free.new.yard)
    c.args.setup.now (setup_in c.args.setup.now run) run.events number c.args.line c.serve_free.result
    (c.serve_free.ensures.cause given run number h))
