-- Which commands have bytes.
use Rattle.std.specs.Prelude.{◌≡◌, ◌<◌, ◌^◌}
use Rattle.std.specs.List.{AllByRecursion}
use Rattle.qq_base.specs.Ids.{client}
use Rattle.qq_entry.specs.Range.{IsCommand, HasContent, IsCounted}
use Rattle.qq_entry.specs.declared.command.Command.{Command}
use Rattle.qq_entry.specs.declared.command.Stamp.{Stamp}
use Rattle.qq_entry.specs.declared.command.Unstamped.{Unstamped}
use Rattle.qq_session.specs.Publishing.{Numbers, OpenCommand, stamped}

-- a command in range, with its content
abbrev pub HasBytes : Command → Type 0
HasBytes command = IsCommand command × HasContent command

-- a client's command that has bytes, whatever stamp its session gives it
abbrev pub MayStamp : Unstamped → Type 0
MayStamp body = (by : Stamp) → IsCounted by → HasBytes (stamped by body)

-- the numbers are of a client's session, and its open commands have bytes
pub record IsClient (n : Numbers) : Type 0 where
  pub session_is : n.session ≡ client n.session.number
  pub positive : 0 < n.session.number
  pub within : n.session.number < 2 ^ 64
  pub opened : AllByRecursion (λ (one : OpenCommand). HasBytes one.1) n.opened
