-- A fault of a line is told as what it is.
use Rattle.std.proofs.Common.{◌≡◌, ◌⊎◌, Result, Err, ap, inl, inr}
use Rattle.qq_base.specs.declared.memory.Memory.TheVariants.{Want}
use Rattle.qq_script_lines.specs.declared.fault.ScriptFault.{ScriptFault}
use Rattle.qq_script_lines.specs.declared.fault.ScriptFault.TheVariants.{Unknown, Words, Number, NoSuch, TooLong, Session, Body, Memory}
use Rattle.qq_script_lines.specs.Lines.{HasScriptCause, IsOfLine}

pub line_cause : {A : Type 0} (fault : ScriptFault) (reading : Result A ScriptFault) → reading ≡ Err fault
    → IsOfLine fault → HasScriptCause fault reading
line_cause (Memory memory) reading is of_line = absurd of_line
line_cause Unknown reading is of_line = is
line_cause Words reading is of_line = is
line_cause Number reading is of_line = is
line_cause NoSuch reading is of_line = is
line_cause TooLong reading is of_line = is
line_cause Session reading is of_line = is
line_cause (Body size) reading is of_line = is

-- and no other is told
pub cause_told : {A : Type 0} (fault : ScriptFault) (reading : Result A ScriptFault) → HasScriptCause fault reading
    → (reading ≡ Err fault) ⊎ (fault ≡ Memory Want)
cause_told (Memory memory) reading want = inr (ap Memory want)
cause_told Unknown reading is = inl is
cause_told Words reading is = inl is
cause_told Number reading is = inl is
cause_told NoSuch reading is = inl is
cause_told TooLong reading is = inl is
cause_told Session reading is = inl is
cause_told (Body size) reading is = inl is
