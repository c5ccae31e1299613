-- What a sink has of a text that is written piece by piece.
use Rattle.std.specs.Prelude.{◌≡◌, ℕ, List, [], ◌∷◌, ◌++◌, Option, Some, None}
use Rattle.qq_entry.specs.declared.audit.AuditRow.{AuditRow}
use Rattle.qq_ports.specs.Streams.{SinkFails, SinkState, Writes}
use Rattle.qq_cluster_run.specs.declared.stop.PrintFault.{PrintFault}
use Rattle.qq_cluster_run.specs.declared.stop.PrintFault.TheVariants as faults

-- a text without this rest was written
pub record HasPrefix (before later : SinkState) (text rest : List ℕ) : Type 0 where
  pub prefix : List ℕ
  pub is : text ≡ prefix ++ rest
  pub written : Writes before later prefix

abbrev pub HasSomePrefix : (before later : SinkState) → List ℕ → Type 0
HasSomePrefix before later text = (rest : List ℕ) × HasPrefix before later text rest

-- why a text wasn't written whole
abbrev pub HasPrintCause : PrintFault → (before later : SinkState) → Type 0
HasPrintCause faults.Failed before later = SinkFails before later
HasPrintCause faults.NoMemory before later = Unit {0}

-- the first of the rows that were left is handed out, or none was left
abbrev pub IsNextRow : List AuditRow → Option AuditRow → List AuditRow → Type 0
IsNextRow old (Some row) new = old ≡ row ∷ new
IsNextRow old None new = (old ≡ []) × (new ≡ [])
