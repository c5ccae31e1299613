use Rattle.qq_digests.proofs.Blocks.{count_blocks}
use Rattle.qq_digests.proofs.padding.block_count.Goals as goal

pub returns : goal.returns
returns c = λ m e. count_blocks m c.args.len e
