use Rattle.std.proofs.Common.{◌≡◌, Option, subst}
use Rattle.qq_entry.specs.Command.{stamp}
use Rattle.qq_entry.specs.declared.command.Command.{Command}
use Rattle.qq_entry.specs.declared.command.Stamp.{Stamp}
use Rattle.qq_model.specs.State.{State}
use Rattle.qq_model.specs.Step.{step_by, step}
use Rattle.qq_serial.specs.Views.{state_of, step_of}
use Rattle.qq_serial.proofs.step.step.Goals as goal

-- the copy is the queue, the stamp is the command's, and that is the entry's
pub returns-in-Ok-clause-ok : goal.returns-in-Ok-clause-ok
unfolding step
returns-in-Ok-clause-ok c =
    let made_at : Command → Option Stamp → State → Type 0 = λ command gate s.
    step_by gate c.args.index command s
    ≡ step_of c.step_by.new.store c.step_by.new.self c.in-Ok.made in
    let read = c.get-command.result.now in
    let queue = state_of c.args.store.now c.args.queue.now in
    subst (λ (command : Command). made_at command (stamp command) queue) c.get-command.ensures
    (subst (λ (gate : Option Stamp). made_at read gate queue) c.stamp.ensures
    (subst (λ (s : State). made_at read c.stamp.result s) (c.in_ok-copy.ensures.ok c.args.store.now) c.in-Ok.ensures.ok))
