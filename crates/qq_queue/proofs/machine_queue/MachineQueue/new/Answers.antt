use Rattle.std.proofs.Common.{sym, subst}
use Rattle.qq_model.specs.State.{empty_queue}
use Rattle.qq_queue.specs.StandsFor.{StandsFor}
use Rattle.qq_queue.proofs.MachineSteps.{new-stands}
use Rattle.qq_queue.proofs.machine_queue.MachineQueue.new.Goals as goal

pub returns : goal.returns
returns c = subst (StandsFor (empty_queue c.args.args)) (sym c.new.ensures) (new-stands c.args.args)
