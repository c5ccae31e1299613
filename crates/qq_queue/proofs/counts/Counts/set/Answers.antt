use Rattle.std.proofs.Common.{arith}
use Rattle.qq_queue.proofs.Counting.{item-set}
use Rattle.qq_queue.proofs.counts.Counts.set.Goals as goal

pub returns : goal.returns
returns c = λ k. item-set 0 c.args.self.now.each c.args.node.0 k c.args.count (omega (arith, c.requires))
