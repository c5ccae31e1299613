use Rattle.std.proofs.Common.{◌≡◌, drop}
use Rattle.qq_model.specs.Changes.{consumer_of}
use Rattle.qq_serial.proofs.consumers.consumer_of.Given as goal

-- it is among the rest
abbrev pub invariant-loop-consumer : goal.invariant-loop-consumer
invariant-loop-consumer l = consumer_of l.id (drop l.consumer-index l.consumers) ≡ consumer_of l.id l.consumers
