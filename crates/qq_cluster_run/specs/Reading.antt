-- What the lines of an input ask for.
use Rattle.std.specs.Prelude.{◌≡◌, ℕ, ◌+◌, List, [], ◌∷◌, false, Some, None, Result, Ok, Err, nat_lt, if◌then◌else◌}
use Rattle.qq_route.specs.declared.setup.Setup.{Setup}
use Rattle.qq_script_lines.specs.declared.fault.ScriptFault.{ScriptFault}
use Rattle.qq_script_lines.specs.declared.fault.ScriptFault.TheVariants.{TooLong, Body}
use Rattle.qq_script_lines.specs.declared.line.Place.{Place}
use Rattle.qq_script_lines.specs.declared.line.ScriptLine.{ScriptLine}
use Rattle.qq_script_lines.specs.Lines.{parse_line}
use Rattle.qq_cluster_run.specs.declared.ending.TheConstants.{LINES_LIMIT}
use Rattle.qq_cluster_run.specs.Endings.{Ending, refusal, limit_body, limit_lines}
use Rattle.qq_cluster_run.specs.Inputs.{Input}

-- a line asks for something, or ends the script
pub data Says : Type 0 where
  Asks : (line : ScriptLine) → Says
  Ends : (ending : Ending) → Says

-- above all clients' sections
abbrev pub at_line : ℕ → Place
at_line number = record { number = number; run = false; section = None }

-- the line of this number
abbrev pub read_line : Setup → ℕ → List ℕ → Result ScriptLine ScriptFault
read_line s number line = parse_line s (at_line number) line

abbrev pub read_input : Setup → ℕ → Input → Result ScriptLine ScriptFault
read_input s number None = Err TooLong
read_input s number (Some line) = read_line s number line

abbrev pub says_by : ℕ → Result ScriptLine ScriptFault → Says
says_by number (Ok line) = Asks line
says_by number (Err (Body size)) = Ends (limit_body size)
says_by number (Err fault) = Ends (refusal number fault)

-- what a line says that has so many before it, if a script may have so many
unfoldable pub says : Setup → ℕ → Input → Says
says s before input =
    if nat_lt before LINES_LIMIT then says_by (before + 1) (read_input s (before + 1) input) else Ends limit_lines

-- each line asks for this, where so many lines stand before the first
abbrev pub AskFor : Setup → ℕ → List Input → List ScriptLine → Type 0
AskFor s before [] [] = Unit {0}
AskFor s before (input ∷ inputs) (line ∷ lines) =
    (says s before input ≡ Asks line) × AskFor s (before + 1) inputs lines
AskFor s before _ _ = ⊥
