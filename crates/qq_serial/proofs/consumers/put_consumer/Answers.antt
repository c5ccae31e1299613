use Rattle.std.proofs.Common.{if◌then◌else◌, arith}
use Rattle.qq_model.specs.declared.consumer.Consumer.{Consumer}
use Rattle.qq_base.specs.Ids.{same_consumer}
use Rattle.qq_base.proofs.InPlace.{mapped_front, mapped_rest}
use Rattle.qq_serial.proofs.consumers.put_consumer.Goals as goal

pub loop-consumer-preserved : goal.loop-consumer-preserved
loop-consumer-preserved c = record {
  front =
      mapped_front (λ (consumer : Consumer). if same_consumer consumer.id c.args.new.id then c.args.new
      else consumer) c.args.consumers.now c.loop-consumer.consumers c.loop-consumer.consumer-index _
      c.put_where.new.consumer (omega arith) (omega arith) c.loop-consumer.invariant.front
      c.loop-consumer.invariant.rest c.put_where.ensures;
  rest =
      mapped_rest c.args.consumers.now c.loop-consumer.consumers c.loop-consumer.consumer-index
      c.put_where.new.consumer c.loop-consumer.invariant.rest;
}
