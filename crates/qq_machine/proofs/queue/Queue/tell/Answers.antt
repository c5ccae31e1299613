use Rattle.std.proofs.Common.{arith}
use Rattle.qq_machine.specs.Views.{content_of, base_of}
use Rattle.qq_machine.proofs.Lows.{told}
use Rattle.qq_machine.proofs.queue.Queue.tell.Goals as goal

pub hold-requires : goal.hold-requires
hold-requires c = record {
  places = let room = c.requires.room.places in omega (arith, room);
  count = let count = c.requires.room.count in omega (arith, count);
}

pub hold-requires-2 : goal.hold-requires-2
hold-requires-2 c = record {
  places = let room = c.requires.room.places in omega (arith, room, c.hold.ensures.room);
  count = let count = c.requires.room.count in omega (arith, count, c.hold.ensures.len);
}

pub hold-requires-3 : goal.hold-requires-3
hold-requires-3 c = record {
  places = let room = c.requires.room.places in omega (arith, room, c.hold.ensures.room, c.hold-2.ensures.room);
  count = let count = c.requires.room.count in omega (arith, count, c.hold.ensures.len, c.hold-2.ensures.len);
}

pub returns : goal.returns
returns c =
    told (base_of c.args.self.now) (content_of c.args.self.now) c.args.self.now.ready.came
    c.args.self.now.consumers.came c.args.self.now.dead.came c.args.self.now.ready.gone
    c.args.self.now.consumers.gone c.args.self.now.dead.gone c.args.live.now.indices c.hold.new.live.indices
    c.hold-2.new.live.indices c.hold-3.new.live.indices c.release.new.live.indices c.release-2.new.live.indices
    c.release-3.new.live.indices c.requires.base c.hold.ensures.indices c.hold-2.ensures.indices
    c.hold-3.ensures.indices c.release.ensures.indices c.release-2.ensures.indices c.release-3.ensures.indices
    c.hold.ensures.balance c.hold-2.ensures.balance c.hold-3.ensures.balance
