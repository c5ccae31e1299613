use Rattle.std.proofs.Common.{◌<◌, length, arith}
use Rattle.qq_recover.specs.Table.{lanes_of}
use Rattle.qq_recover.proofs.Carries.{carries-more, each-more}
use Rattle.qq_recover.proofs.start.carries_of.Goals as goal

pub queues-preserved : goal.queues-preserved
queues-preserved c =
    let within : c.queues.queue-index < length c.args.queues.now = omega arith in
    record {
      carries = carries-more (lanes_of c.args.table.now) c.args.queues.now c.queues.queue-index _
          c.queues.carries.items c.add_carry.new.carries.items within c.queues.invariant.carries
          c.in_ok-add_carry.ensures.ok;
      each = each-more (lanes_of c.args.table.now) c.args.queues.now c.queues.queue-index _ within
          c.queues.invariant.each c.in_ok-add_carry.ensures.each;
    }
