-- Why a delivery isn't taken.
use Rattle.std.specs.Prelude.{◌≡◌, ◌≤◌, ℕ}
use Rattle.qq_base.specs.declared.memory.Memory.TheVariants.{Want}
use Rattle.qq_model.specs.declared.TheConstants.{WINDOW}
use Rattle.qq_shovel.specs.declared.fault.MoveFault.{MoveFault}
use Rattle.qq_shovel.specs.declared.fault.MoveFault.TheVariants as faults

-- so many publishes are open, or there was no memory
abbrev pub IsMoveCaused : (count : ℕ) → MoveFault → Type 0
IsMoveCaused count faults.WindowFull = WINDOW ≤ count
IsMoveCaused count (faults.Memory memory) = memory ≡ Want
