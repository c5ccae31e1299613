use Rattle.qq_broker.proofs.serving.serve_free.Goals as goal

pub returns-in-Crash-clause-cause : goal.returns-in-Crash-clause-cause
returns-in-Crash-clause-cause g c = rw c.in-Crash.is (λ given run number h. c.crash.ensures.cause given run number)

pub returns-in-Restart-clause-cause : goal.returns-in-Restart-clause-cause
returns-in-Restart-clause-cause g c =
    let yards = g.Y.Yard.faults in
    rw c.in-Restart.is (λ given run number h. c.restart.ensures.cause given run number (yards c.args.yard.now)
    (yards c.args.yard.now) h)

pub returns-in_default-clause-cause : goal.returns-in_default-clause-cause
returns-in_default-clause-cause g c = λ given run number h.
    (let yards = g.Y.Yard.faults in
    c.go_on.ensures.cause given run number (yards c.args.yard.now) (yards c.args.yard.now) h)
