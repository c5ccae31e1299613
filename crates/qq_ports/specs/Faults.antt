-- Counted faults, and what a sink has of a text when it fails.
use Rattle.std.specs.Prelude.{◌≤◌, ℕ, List, Option, length, take}
use Rattle.std.specs.Io.KnownBytes.{Appends}
use Rattle.qq_base.specs.Causes.{Rose}
use Rattle.qq_ports.specs.declared.source.Failed.{Failed}

-- a source or a sink fails only where its count of faults rose
abbrev pub IsCaused : ℕ → ℕ → Failed → Type 0
IsCaused before now = λ _. Rose before now

-- known bytes grow by a prefix of these
abbrev pub AppendsPrefix : Option (List ℕ) → Option (List ℕ) → List ℕ → Type 0
AppendsPrefix old new bytes = (n : ℕ) × (n ≤ length bytes) × Appends old new (take n bytes)
