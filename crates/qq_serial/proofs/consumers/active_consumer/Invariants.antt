use Rattle.std.proofs.Common.{◌≡◌, drop}
use Rattle.qq_model.specs.Choice.{active_consumer}
use Rattle.qq_serial.proofs.consumers.active_consumer.Given as goal

-- it is among the rest
abbrev pub invariant-loop-consumer : goal.invariant-loop-consumer
invariant-loop-consumer l =
    active_consumer l.rows (drop l.consumer-index l.consumers) ≡ active_consumer l.rows l.consumers
