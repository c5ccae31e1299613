use Rattle.std.proofs.Common.{◌≡◌, ◌-◌}
use Rattle.qq_model.specs.Changes.{while_next}
use Rattle.qq_model.specs.Serving.{check_out}
use Rattle.qq_serial.specs.Views.{progress_of}
use Rattle.qq_serial.proofs.queue.Draft.check_out_all.Given as goal

-- the rounds that are left lead to where all lead
abbrev pub invariant-rounds : goal.invariant-rounds
invariant-rounds l =
    while_next (l.ready - l._round) check_out (progress_of l.store l.self) ≡ while_next l.ready check_out
    (progress_of l.store l.initial.self)
