use Rattle.std.proofs.Common.{rules}
use Rattle.qq_wal.specs.Marks.{known}
use Rattle.qq_wal.proofs.Taking.{gathered-fit, gathered-follow, gathered-ahead}
use Rattle.qq_wal.proofs.wal.Wal.gather.Goals as goal

pub returns-clause-sound : goal.returns-clause-sound
returns-clause-sound g c =
    let was = c.args.self.now in
    let is = c.in_default.ensures.items in
    record {
      waiting = gathered-fit was.waiting.items c.push.new.self.items c.args.op is
          c.requires.takes (search rules) c.requires.sound.waiting;
      follow = gathered-follow was.queues.items (known was.marks) was.waiting.items
          c.push.new.self.items c.args.op is c.requires.sound.follow c.requires.takes
          c.requires.goes_on;
      queues_are = c.requires.sound.queues_are;
      carries = c.requires.sound.carries;
      number = c.requires.sound.number;
      counted = c.requires.sound.counted;
      named = c.requires.sound.named;
      on_disk = c.requires.sound.on_disk;
      synced = c.requires.sound.synced;
      kept = c.requires.sound.kept;
    }

pub returns-clause-ahead : goal.returns-clause-ahead
returns-clause-ahead g c =
    gathered-ahead (known c.args.self.now.marks) c.args.self.now.waiting.items
    c.push.new.self.items c.args.op
    c.in_default.ensures.items
