-- What holds of a client's numbers at each time.
use Rattle.std.specs.Prelude.{◌≡◌, ◌⊎◌, ℕ, ◌+◌, ◌<◌, ◌≤◌, List, [], ◌∷◌, true, false, Some, length}
use Rattle.std.specs.List.{AllByRecursion}
use Rattle.qq_base.specs.declared.ids.SessionId.{SessionId}
use Rattle.qq_base.specs.declared.memory.TheConstants.{NUMBER_END}
use Rattle.qq_entry.specs.declared.command.Stamp.{Stamp}
use Rattle.qq_entry.specs.declared.command.Command.{Command}
use Rattle.qq_entry.specs.Command.{stamp}
use Rattle.qq_model.specs.declared.TheConstants.{WINDOW}
use Rattle.qq_session.specs.Publishing.{OpenCommand, Numbers, is_open}

-- a command has its session's stamp with this number, and a low mark below it
pub record HasNumber (session : SessionId) (seq : ℕ) (command : Command) : Type 0 where
  pub by : Stamp
  pub is : stamp command ≡ Some by
  pub session_is : by.session ≡ session
  pub seq_is : by.seq ≡ seq
  pub done_below : by.done < seq

-- an open command has a number that was handed out
pub record IsOpenBelow (session : SessionId) (next : ℕ) (one : OpenCommand) : Type 0 where
  pub positive : 0 < one.0
  pub below : one.0 < next
  pub has : HasNumber session one.0 one.1

-- the numbers rise
abbrev pub Rise : List OpenCommand → Type 0
Rise [] = Unit {0}
Rise (one ∷ more) = AllByRecursion (λ (other : OpenCommand). one.0 < other.0) more × Rise more

-- numbers count from 1 to their end, and those that are open rise and are no more than may be
pub record IsNumbering (n : Numbers) : Type 0 where
  pub positive : 0 < n.next
  pub within : n.next ≤ NUMBER_END
  pub few : length n.opened ≤ WINDOW
  pub rise : Rise n.opened
  pub open_below : AllByRecursion (IsOpenBelow n.session n.next) n.opened

-- a number was handed out, and it and all below it are answered; the number behind it is open, or the next
pub record IsLowMark (mark : ℕ) (n : Numbers) : Type 0 where
  pub below : mark < n.next
  pub answered : (seq : ℕ) → seq ≤ mark → is_open seq n ≡ false
  pub ends : (mark + 1 ≡ n.next) ⊎ (is_open (mark + 1) n ≡ true)
