-- What a line says, for a body that reads it.
use Rattle.std.proofs.Common.{◌≡◌, ℕ, ◌+◌, ◌<◌, ◌≤◌, List, Some, None, Ok, refl, ap, ◌∙◌}
use Rattle.std.proofs.lemmas.Bool.{lt-ltb, le-ltb}
use Rattle.qq_route.specs.declared.setup.Setup.{Setup}
use Rattle.qq_script_lines.specs.declared.fault.ScriptFault.{ScriptFault}
use Rattle.qq_script_lines.specs.declared.fault.ScriptFault.TheVariants as faults
use Rattle.qq_script_lines.specs.Lines.{HasScriptCause}
use Rattle.qq_script_lines.specs.declared.line.ScriptLine.{ScriptLine}
use Rattle.qq_cluster_run.specs.declared.ending.TheConstants.{LINES_LIMIT}
use Rattle.qq_cluster_run.specs.Endings.{limit_lines, refusal}
use Rattle.qq_cluster_run.specs.Inputs.{Input}
use Rattle.qq_cluster_run.specs.Reading.{Asks, Ends, read_line, read_input, says_by, says}
use Rattle.qq_cluster_run.specs.Asking.{stop_by, HasAskCause}

-- behind the last line no line is read
pub says_past : (s : Setup) (before : ℕ) (input : Input) → LINES_LIMIT ≤ before → says s before input ≡ Ends limit_lines
unfolding says
says_past s before input le = rw (le-ltb _ _ le) refl

pub says_within : (s : Setup) (before : ℕ) (input : Input) → before < LINES_LIMIT
    → says s before input ≡ says_by (before + 1) (read_input s (before + 1) input)
unfolding says
says_within s before input lt = rw (lt-ltb _ _ lt) refl

pub asks_for : (s : Setup) (before : ℕ) (bytes : List ℕ) (line : ScriptLine) → before < LINES_LIMIT
    → read_line s (before + 1) bytes ≡ Ok line → says s before (Some bytes) ≡ Asks line
asks_for s before bytes line lt is =
    says_within s before (Some bytes) lt ∙ ap (says_by (before + 1)) is

pub too_long : (s : Setup) (before : ℕ) → before < LINES_LIMIT → says s before None ≡ Ends (refusal (before + 1) faults.TooLong)
too_long s before lt = says_within s before None lt

pub refused_by : (fault : ScriptFault) (s : Setup) (before : ℕ) (bytes : List ℕ) → before < LINES_LIMIT
    → HasScriptCause fault (read_line s (before + 1) bytes)
    → HasAskCause (stop_by fault (before + 1)) (says s before (Some bytes))
refused_by (faults.Memory memory) s before bytes lt cause = tt
refused_by (faults.Body size) s before bytes lt cause =
    says_within s before (Some bytes) lt ∙ ap (says_by (before + 1)) cause
refused_by faults.Unknown s before bytes lt cause =
    says_within s before (Some bytes) lt ∙ ap (says_by (before + 1)) cause
refused_by faults.Words s before bytes lt cause =
    says_within s before (Some bytes) lt ∙ ap (says_by (before + 1)) cause
refused_by faults.Number s before bytes lt cause =
    says_within s before (Some bytes) lt ∙ ap (says_by (before + 1)) cause
refused_by faults.NoSuch s before bytes lt cause =
    says_within s before (Some bytes) lt ∙ ap (says_by (before + 1)) cause
refused_by faults.TooLong s before bytes lt cause =
    says_within s before (Some bytes) lt ∙ ap (says_by (before + 1)) cause
refused_by faults.Session s before bytes lt cause =
    says_within s before (Some bytes) lt ∙ ap (says_by (before + 1)) cause
