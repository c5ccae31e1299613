use Rattle.std.proofs.Common.{arith}
use Rattle.qq_live.proofs.Changes.{adds-more, adds-all}
use Rattle.qq_live.proofs.live.Live.add_all.Goals as goal

pub indices-preserved : goal.indices-preserved
indices-preserved c =
    let long = c.indices.invariant.1 in
    let room = c.indices.invariant.2 in (
      adds-more c.args.indices.now c.args.self.now.indices c.indices.self.indices c.add.new.self.indices c.indices.place
          c.index_at.result c.index_at.ensures c.indices.invariant.0 c.add.ensures.indices,
      omega (arith, c.add.ensures.len, long),
      omega (arith, c.add.ensures.room, room),
    )

pub returns-clause-indices : goal.returns-clause-indices
returns-clause-indices c =
    adds-all c.args.indices.now c.args.self.now.indices c.indices.self.indices c.indices.place
    (omega (arith, c.indices-test.false)) c.indices.invariant.0
