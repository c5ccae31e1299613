-- What carrying out a command keeps, whatever the sessions are, each entry keeps.
use Rattle.std.proofs.Common.{List, [], ◌∷◌, Option, Some, None}
use Rattle.qq_base.specs.declared.ids.Index.{Index}
use Rattle.qq_entry.specs.declared.command.Stamp.{Stamp}
use Rattle.qq_entry.specs.declared.command.Command.{Command}
use Rattle.qq_entry.specs.declared.command.Entry.{Entry}
use Rattle.qq_entry.specs.Command.{stamp}
use Rattle.qq_model.specs.declared.session.Gate.{Gate}
use Rattle.qq_model.specs.declared.session.Gate.TheVariants.{Fresh}
use Rattle.qq_model.specs.State.{State, Sessions}
use Rattle.qq_model.specs.Gate.{gate, admit}
use Rattle.qq_model.specs.Step.{carry_out, go_through, step_by, step}
use Rattle.qq_model.specs.Audit.{next_index, next_step, state_after}

-- J before an entry, K after it
pub record IsKeptByStep (J K : State → Type 0) (index : Index) (s : State) : Type 0 where
  -- with other sessions, and without being carried out
  pub stale : (x : Sessions) → J s → K (record s { applied = index.0; sessions = x })
  pub fresh : (command : Command) (x y : Sessions) → J s
      → K (record ((carry_out index command (record s { sessions = x })).progress.state) {
        applied = index.0;
        sessions = y;
      })

pub next-keeps : (J K : State → Type 0) (s : State) (entry : Entry) → IsKeptByStep J K (next_index s) s → J s
    → K (next_step s entry).state
unfolding step
next-keeps J K s entry keeps holds = by (stamp entry.command)
  where
    passes : (g : Gate) (given : Stamp) → K (go_through g (next_index s) given entry.command s).state
    passes Fresh given = keeps.fresh entry.command (admit s.sessions given) _ holds
    passes _ given = keeps.stale _ holds

    by : (o : Option Stamp) → K (step_by o (next_index s) entry.command s).state
    by None = keeps.fresh entry.command s.sessions _ holds
    by (Some given) = passes (gate s.sessions given) given

pub after-keeps : (J : State → Type 0) → ((s : State) → IsKeptByStep J J (next_index s) s) → (s : State)
    (entries : List Entry) → J s → J (state_after s entries)
after-keeps J keeps s [] holds = holds
after-keeps J keeps s (entry ∷ entries) holds =
    after-keeps J keeps (next_step s entry).state entries (next-keeps J J s entry (keeps s) holds)
