use Rattle.std.proofs.Common.{◌≡◌, drop}
use Rattle.qq_model.specs.Commands.{end_deliveries}
use Rattle.qq_serial.specs.Views.{progress_of}
use Rattle.qq_serial.proofs.queue.Draft.end_deliveries.Given as goal

-- the rest of the ids leads to where all lead
abbrev pub invariant-loop-id : goal.invariant-loop-id
invariant-loop-id l =
    end_deliveries l.outcome l.consumer (drop l.id-index l.ids) (progress_of l.store l.self) ≡ end_deliveries
    l.outcome l.consumer l.ids (progress_of l.store l.initial.self)
