-- A step counts its entry as applied.
use Rattle.std.proofs.Common.{◌≡◌, Option, Some, None, refl}
use Rattle.qq_base.specs.declared.ids.Index.{Index}
use Rattle.qq_entry.specs.declared.command.Command.{Command}
use Rattle.qq_entry.specs.declared.command.Entry.{Entry}
use Rattle.qq_entry.specs.declared.command.Stamp.{Stamp}
use Rattle.qq_entry.specs.Command.{stamp}
use Rattle.qq_model.specs.declared.session.Gate.{Gate}
use Rattle.qq_model.specs.declared.session.Gate.TheVariants.{Fresh, Again, Gap, Forgotten, Ended, WindowFull, SessionsFull}
use Rattle.qq_model.specs.Gate.{gate}
use Rattle.qq_model.specs.State.{State}
use Rattle.qq_model.specs.Step.{go_through, step_by, step}

gate-applied : (g : Gate) (index : Index) (by : Stamp) (command : Command) (s : State)
    → (go_through g index by command s).state.applied ≡ index.0
gate-applied Fresh index by command s = refl
gate-applied (Again before) index by command s = refl
gate-applied (Gap next) index by command s = refl
gate-applied Forgotten index by command s = refl
gate-applied Ended index by command s = refl
gate-applied WindowFull index by command s = refl
gate-applied SessionsFull index by command s = refl

by-applied : (o : Option Stamp) (index : Index) (command : Command) (s : State)
    → (step_by o index command s).state.applied ≡ index.0
by-applied None index command s = refl
by-applied (Some by) index command s = gate-applied (gate s.sessions by) index by command s

pub step_applied : (s : State) (index : Index) (e : Entry) → (step s index e).state.applied ≡ index.0
unfolding step
step_applied s index e = by-applied (stamp e.command) index e.command s
