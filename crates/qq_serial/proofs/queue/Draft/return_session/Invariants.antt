use Rattle.std.proofs.Common.{◌≡◌, drop}
use Rattle.qq_model.specs.Commands.{return_session}
use Rattle.qq_serial.specs.Views.{progress_of}
use Rattle.qq_serial.proofs.queue.Draft.return_session.Given as goal

-- the rest of the consumers leads to where all lead
abbrev pub invariant-loop-consumer : goal.invariant-loop-consumer
invariant-loop-consumer l =
    return_session l.session (drop l.consumer-index l.consumers) (progress_of l.store l.self) ≡ return_session
    l.session l.consumers (progress_of l.store l.initial.self)
