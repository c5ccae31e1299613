-- Why recovery gave up.
use Rattle.std.proofs.Common.{◌≡◌, ◌≤◌, ◌<◌, ◌^◌, ◌⊎◌, ℕ, suc, cond, List, [], ◌∷◌, max, refl, sym, ap, subst, ◌∙◌, inl, inr, arith}
use Rattle.std.specs.Prelude.{Contains}
use Rattle.std.specs.List.{fold}
use Rattle.std.proofs.lemmas.Bool.{cases_lt}
use Rattle.qq_base.specs.Causes.{Rose}
use Rattle.qq_base.specs.declared.memory.TheConstants.{NUMBER_END}
use Rattle.qq_disk.specs.declared.name.FileKind.{FileKind}
use Rattle.qq_disk.specs.declared.name.FileKind.TheVariants.{Log, Segment, Snapshot}
use Rattle.qq_disk.specs.declared.name.FileName.{FileName}
use Rattle.qq_disk.specs.Disk.{Disk, IsListed}
use Rattle.qq_disk.specs.Image.{log_of}
use Rattle.qq_wal.specs.Numbers.{greater, greatest_number, same_kind}
use Rattle.qq_recover.specs.declared.fault.RecoverFault.{RecoverFault}
use Rattle.qq_recover.specs.declared.fault.RecoverFault.TheVariants.{Disk as DiskFailed, Damaged, Version}
use Rattle.qq_recover.specs.Fault.{IsCaused}
use Rattle.qq_recover.specs.Recovered.{IsGreatest, IsNoRefusal, IsRecoverCaused}
use Rattle.qq_recover.proofs.Starts.{listed-within}

pub disk-cause : (before now : ℕ) → IsCaused before now DiskFailed ⊎ IsRecoverCaused before now DiskFailed
    → Rose before now
disk-cause before now (inl rose) = rose
disk-cause before now (inr rose) = rose

pub no-refusal-cause : (e : RecoverFault) (file : FileName) (number : ℕ) → IsNoRefusal e
    → (e ≡ Damaged file number) ⊎ (e ≡ Version file number) → ⊥
no-refusal-cause e file number none (inl is) = subst IsNoRefusal is none
no-refusal-cause e file number none (inr is) = subst IsNoRefusal is none

-- ---- the greatest number

-- it is what was the greatest before these names, or that of one of them
abbrev Held : ℕ → List FileName → ℕ → Type 0
Held before names greatest = (greatest ≡ before) ⊎ Contains names (log_of greatest)

held-later : (name : FileName) (names : List FileName) (before next greatest : ℕ) → next ≡ before
    → Held next names greatest → Held before (name ∷ names) greatest
held-later name names before next greatest same (inl is) = inl (is ∙ same)
held-later name names before next greatest same (inr (k, less, is)) = inr (suc k, omega (arith, less), is)

abbrev named : FileKind → ℕ → FileName
named kind number = record { kind = kind; number = number }

held-here : (name : FileName) (names : List FileName) (before greatest : ℕ) → name.kind ≡ Log
    → greatest ≡ name.number → Held before (name ∷ names) greatest
held-here name names before greatest kind number = inr (
  0,
  omega arith,
  ap (λ (k : FileKind). named k name.number) kind ∙ ap log_of (sym number),
)

greatest-held : (names : List FileName) (before : ℕ) → Held before names (fold (greater Log) before names)
greatest-held [] before = inl refl
greatest-held (name ∷ names) before = by name.kind refl (greatest-held names)
  where
    log : name.kind ≡ Log → (greatest : ℕ) → (before < name.number) ⊎ (name.number ≤ before)
        → Held (max before name.number) names greatest → Held before (name ∷ names) greatest
    log is greatest (inl less) (inl e) = held-here name names before greatest is (omega (arith, e, less))
    log is greatest (inl less) (inr has) = held-later name names before before greatest refl (inr has)
    log is greatest (inr le) held =
        held-later name names before (max before name.number) greatest (omega (arith, le)) held

    by : (kind : FileKind) → name.kind ≡ kind → ((k : ℕ) → Held k names (fold (greater Log) k names))
        → Held before (name ∷ names)
        (fold (greater Log) (cond (same_kind Log kind) (max before name.number) before) names)
    by Log is later =
        log is (fold (greater Log) (max before name.number) names) (cases_lt before name.number)
        (later (max before name.number))
    by Segment is later = held-later name names before before (fold (greater Log) before names) refl (later before)
    by Snapshot is later = held-later name names before before (fold (greater Log) before names) refl (later before)

pub greatest-listed : (d : Disk) (number : ℕ) → NUMBER_END ≤ number → IsGreatest d number
    → (2 ^ 63 ≤ number) × IsListed d (log_of number) × ((other : ℕ) → IsListed d (log_of other) → other ≤ number)
greatest-listed d number end g = (end, listed (greatest-held g.names 0), above)
  where
    listed : Held 0 g.names (greatest_number Log g.names) → IsListed d (log_of number)
    listed (inl none) = absurd (omega (arith, end, g.is, none))
    listed (inr has) =
        (g.listing.listed (log_of number)).0
        (subst (λ (n : ℕ). Contains g.names (log_of n)) (sym g.is) has)

    above : (other : ℕ) → IsListed d (log_of other) → other ≤ number
    above other here = omega (arith, listed-within d g.names g.listing other here, g.is)
