-- What is shown to clients.
use Rattle.std.specs.Prelude.{ℕ, List, [], ◌∷◌, ◌++◌, Bool, true, false, not, ◌&&◌, map, nat_eq, if◌then◌else◌}
use Rattle.qq_base.specs.Ids.{client, same_session}
use Rattle.qq_base.specs.declared.ids.SessionId.{SessionId}
use Rattle.qq_base.specs.declared.ids.Term.{Term}
use Rattle.qq_entry.specs.declared.audit.Effect.{Effect}
use Rattle.qq_entry.specs.declared.command.Entry.{Entry}
use Rattle.qq_entry.specs.declared.command.Command.{Command}
use Rattle.qq_model.specs.State.{State}
use Rattle.qq_model.specs.Audit.{next_step}
use Rattle.qq_session.specs.Clients.{Clients}
use Rattle.qq_session.specs.declared.shown.Shown.{Shown}
use Rattle.qq_session.specs.declared.shown.Shown.TheVariants.{NoLeader}

-- what entries do beside their answers, those of a term alone
abbrev pub effects_of_term : Term → State → List Entry → List Effect
effects_of_term term s [] = []
effects_of_term term s (entry ∷ entries) =
    (if nat_eq entry.term.0 term.0 then (next_step s entry).effects else [])
    ++ effects_of_term term (next_step s entry).state entries

-- a client's session gets its deliveries, unless what comes to it is lost
abbrev pub is_delivered_to : Clients → SessionId → Bool
is_delivered_to clients session =
    same_session session (client session.number) && not (clients session.number).muted

-- what becomes of commands that are offered
abbrev pub said_of : Bool → ℕ → List Command → List Shown
said_of true session commands = []
said_of false session commands = map (λ (c : Command). NoLeader session) commands
