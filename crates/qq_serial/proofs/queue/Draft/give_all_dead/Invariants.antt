use Rattle.std.proofs.Common.{◌≡◌, ◌-◌}
use Rattle.qq_model.specs.Changes.{while_next}
use Rattle.qq_model.specs.Serving.{give_dead}
use Rattle.qq_serial.specs.Views.{progress_of}
use Rattle.qq_serial.proofs.queue.Draft.give_all_dead.Given as goal

-- the rounds that are left lead to where all lead
abbrev pub invariant-rounds : goal.invariant-rounds
invariant-rounds l =
    while_next (l.dead - l._round) give_dead (progress_of l.store l.self) ≡ while_next l.dead give_dead
    (progress_of l.store l.initial.self)
