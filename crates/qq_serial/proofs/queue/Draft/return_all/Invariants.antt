use Rattle.std.proofs.Common.{◌≡◌, ◌-◌}
use Rattle.qq_model.specs.Changes.{while_next}
use Rattle.qq_model.specs.Commands.{return_first}
use Rattle.qq_serial.specs.Views.{progress_of}
use Rattle.qq_serial.proofs.queue.Draft.return_all.Given as goal

-- the rounds that are left lead to where all lead
abbrev pub invariant-rounds : goal.invariant-rounds
invariant-rounds l =
    while_next (l.out - l._round) (return_first l.consumer.id) (progress_of l.store l.self) ≡ while_next l.out
    (return_first l.consumer.id) (progress_of l.store l.initial.self)
