use Rattle.qq_machine.proofs.Lows.{new-holds}
use Rattle.qq_machine.proofs.machine.Machine.new.Goals as goal

pub returns : goal.returns
returns c = c.new-queue.ensures.parts c.args.args

pub invariant_of-result : goal.invariant_of-result
invariant_of-result c = (
  c.new-queue.ensures.committed,
  c.new-effects.ensures.items,
  new-holds c.args.args c.new-queue.result c.new.result.indices c.new.ensures (c.new-queue.ensures.parts c.args.args),
)
