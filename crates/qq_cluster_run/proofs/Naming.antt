-- The setups of runs have names and numbers, so what their lines ask for names queues, nodes and sessions.
use Rattle.std.proofs.Common.{◌≡◌, ◌+◌, ℕ, Bool, true, false, List, Some, Result, Ok, Err, inl, inr, sym, ap, ◌∙◌}
use Rattle.std.proofs.lemmas.Bool.{cases_lt, false≢true}
use Rattle.qq_route.specs.declared.setup.Setup.{Setup}
use Rattle.qq_script_lines.specs.declared.fault.ScriptFault.{ScriptFault}
use Rattle.qq_script_lines.specs.declared.fault.ScriptFault.TheVariants.{Body, NoSuch, Number, Words, TooLong, Unknown, Session, Memory}
use Rattle.qq_script_lines.specs.declared.line.ScriptLine.{ScriptLine}
use Rattle.qq_cluster_run.specs.declared.ending.TheConstants.{LINES_LIMIT}
use Rattle.qq_cluster_run.specs.Endings.{Ending, refusal, limit_body, limit_lines}
use Rattle.qq_cluster_run.specs.Named.{AreRows, IsNamed}
use Rattle.qq_cluster_run.specs.Reading.{Says, Asks, Ends, read_line, says_by, says}
use Rattle.qq_cluster_run.specs.Setup.{Logs, cluster_over}
use Rattle.qq_cluster_run.proofs.Said.{read-named}
use Rattle.qq_cluster_run.proofs.Says.{says_within, says_past}

abbrev asks : Says → Bool
asks (Asks line) = true
asks (Ends ending) = false

abbrev line_or : ScriptLine → Says → ScriptLine
line_or other (Asks line) = line
line_or other (Ends ending) = other

ends-asks : (ending : Ending) (asked : ScriptLine) → Ends ending ≡ Asks asked → ⊥
ends-asks ending asked is = false≢true (ap asks is)

asked-line : (line asked : ScriptLine) → Asks line ≡ Asks asked → line ≡ asked
asked-line line asked is = ap (line_or line) is

-- ---- lines

-- a line that asks for something was read
asks-read : (number : ℕ) (read : Result ScriptLine ScriptFault) (asked : ScriptLine) → says_by number read ≡ Asks asked
    → read ≡ Ok asked
asks-read number (Ok line) asked is =
    let same : line ≡ asked = asked-line line asked is in ap (λ (l : ScriptLine). Ok l) same
asks-read number (Err (Body size)) asked is = absurd (ends-asks (limit_body size) asked is)
asks-read number (Err (Memory memory)) asked is = absurd (ends-asks (refusal number (Memory memory)) asked is)
asks-read number (Err TooLong) asked is = absurd (ends-asks (refusal number TooLong) asked is)
asks-read number (Err Unknown) asked is = absurd (ends-asks (refusal number Unknown) asked is)
asks-read number (Err Words) asked is = absurd (ends-asks (refusal number Words) asked is)
asks-read number (Err Number) asked is = absurd (ends-asks (refusal number Number) asked is)
asks-read number (Err NoSuch) asked is = absurd (ends-asks (refusal number NoSuch) asked is)
asks-read number (Err Session) asked is = absurd (ends-asks (refusal number Session) asked is)

-- what a line of a run asks for names what is there
pub asked-named : (s : Setup) (logs : Logs) (before : ℕ) (line : List ℕ) (asked : ScriptLine) → AreRows s.queues
    → says s before (Some line) ≡ Asks asked → IsNamed (cluster_over s logs) asked
asked-named s logs before line asked are is = elim (cases_lt before LINES_LIMIT) [
  | inl lt ↦ read-named s logs (before + 1) line asked are
      (asks-read (before + 1) (read_line s (before + 1) line) asked (sym (says_within s before (Some line) lt) ∙ is))
  | inr le ↦ absurd (ends-asks limit_lines asked (sym (says_past s before (Some line) le) ∙ is))
]
