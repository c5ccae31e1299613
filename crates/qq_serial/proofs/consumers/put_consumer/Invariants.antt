use Rattle.std.proofs.Common.{◌≡◌, take, drop}
use Rattle.qq_model.specs.Changes.{put_consumer}
use Rattle.qq_serial.proofs.consumers.put_consumer.Given as goal

-- the consumers so far are changed, and the others are as before
abbrev pub invariant-loop-consumer : goal.invariant-loop-consumer
invariant-loop-consumer l = record {
  front : take l.consumer-index l.consumers ≡ put_consumer l.new (take l.consumer-index l.initial.consumers);
  rest : drop l.consumer-index l.consumers ≡ drop l.consumer-index l.initial.consumers;
}
