use Rattle.std.proofs.Common.{None, arith}
use Rattle.qq_queue.proofs.Counting.{item-set}
use Rattle.qq_queue.proofs.votes.Votes.set.Goals as goal

pub returns : goal.returns
returns c = λ k. item-set None c.args.self.now.each c.args.node.0 k c.args.vote (omega (arith, c.requires))
