use Rattle.std.proofs.Common.{◌≡◌, drop, fold}
use Rattle.qq_entry.specs.declared.command.DeadDone.{DeadDone}
use Rattle.qq_model.specs.Commands.{Settling, settle_dead_by, given_row, settle_dead}
use Rattle.qq_serial.specs.Views.{progress_of}
use Rattle.qq_serial.proofs.queue.Draft.settle_dead.Given as goal

-- the rest leads to where all lead
abbrev pub invariant-loop-one : goal.invariant-loop-one
invariant-loop-one l =
    fold (λ (now : Settling) (one : DeadDone). settle_dead_by (given_row one.number now.progress.state) now)
    (record { progress = progress_of l.store l.self; count = l.count }) (drop l.one-index l.done)
    ≡ settle_dead l.done (progress_of l.store l.initial.self)
