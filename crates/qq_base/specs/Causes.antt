-- Why a call gave up: a number at its end, or a fault that is counted.
use Rattle.std.specs.Prelude.{◌≡◌, ◌<◌, ◌≤◌, ◌+◌, ◌-◌, ◌^◌, ◌⊎◌, ℕ, Result, IfErr, min}
use Rattle.qq_base.specs.declared.memory.Memory.{Memory}
use Rattle.qq_base.specs.declared.memory.Memory.TheVariants.{Want, Spent}

-- There may be no memory at any time. A number at its end is told only where the call would raise it.
abbrev pub SpentOnlyWhere : Memory → ℕ → Type 0 → Type 0
SpentOnlyWhere Want end P = Unit {0}
SpentOnlyWhere (Spent number) end P = (number ≡ end) × P

-- one more, as far as 64 bits count
abbrev pub raise : ℕ → ℕ
raise n = min (n + 1) (2 ^ 64 - 1)

-- a count of 64 bits rose, or stands at its end
abbrev pub Rose : ℕ → ℕ → Type 0
Rose before now = (before < now) ⊎ (now ≡ 2 ^ 64 - 1)

-- the count of faults never falls, and an error has its cause
pub record HasCause {T E : Type 0} (IsCaused : ℕ → ℕ → E → Type 0) (before now : ℕ) (result : Result T E) : Type 0
  where
    pub later : before ≤ now
    pub cause : IfErr result (IsCaused before now)
