use Rattle.std.proofs.Common.{arith}
use Rattle.qq_live.proofs.Changes.{removes-more, removes-all}
use Rattle.qq_live.proofs.live.Live.remove_all.Goals as goal

pub indices-preserved : goal.indices-preserved
indices-preserved c =
    removes-more c.args.indices.now c.args.self.now.indices c.indices.self.indices c.remove.new.self.indices
    c.indices.place c.index_at.result c.index_at.ensures c.indices.invariant c.remove.ensures.indices

pub returns : goal.returns
returns c = record {
  indices =
      removes-all c.args.indices.now c.args.self.now.indices c.indices.self.indices c.indices.place
      (omega (arith, c.indices-test.false)) c.indices.invariant;
}
