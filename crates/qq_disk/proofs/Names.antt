-- A disk with another file under one name.
use Rattle.std.proofs.Common.{◌≡◌, ℕ, Bool, true, false, cond, Option, Ordering, Less, Equal, Greater, refl, ap, ◌∙◌, is_eq, nat_cmp, arith}
use Rattle.std.specs.Ordering.{ordering_then}
use Rattle.std.proofs.lemmas.Bool.Decides.{nat_tests}
use Rattle.qq_disk.specs.declared.name.FileKind.{FileKind}
use Rattle.qq_disk.specs.declared.name.FileKind.TheVariants.{Log, Segment, Snapshot}
use Rattle.qq_disk.specs.declared.name.FileName.{FileName}
use Rattle.qq_disk.specs.Disk.{Disk, FileState, set}
use Rattle.qq_disk.specs.Name.{rank, same_name}

rank_tells : (a b : FileKind) → rank a ≡ rank b → a ≡ b
rank_tells Log Log e = refl
rank_tells Log Segment e = absurd (omega (arith, e))
rank_tells Log Snapshot e = absurd (omega (arith, e))
rank_tells Segment Log e = absurd (omega (arith, e))
rank_tells Segment Segment e = refl
rank_tells Segment Snapshot e = absurd (omega (arith, e))
rank_tells Snapshot Log e = absurd (omega (arith, e))
rank_tells Snapshot Segment e = absurd (omega (arith, e))
rank_tells Snapshot Snapshot e = refl

both_equal : (a b : Ordering) → is_eq (ordering_then a b) ≡ true → (is_eq a ≡ true) × (is_eq b ≡ true)
both_equal Less b e = absurd cc
both_equal Equal b e = (refl, e)
both_equal Greater b e = absurd cc

equal_numbers : (a b : ℕ) → is_eq (nat_cmp a b) ≡ true → a ≡ b
equal_numbers a b e = grind (arith, nat_tests)

itself : (a : ℕ) → nat_cmp a a ≡ Equal
itself a = grind (arith, nat_tests)

pub same_name-true : (a b : FileName) → same_name a b ≡ true → a ≡ b
same_name-true a b e =
    let both = both_equal (nat_cmp (rank a.kind) (rank b.kind)) (nat_cmp a.number b.number) e in
    let kinds : a.kind ≡ b.kind = rank_tells a.kind b.kind (equal_numbers (rank a.kind) (rank b.kind) both.0) in
    let numbers : a.number ≡ b.number = equal_numbers a.number b.number both.1 in
    λ i. record { kind = kinds i; number = numbers i }

pub same_name-refl : (a : FileName) → same_name a a ≡ true
same_name-refl a =
    ap (λ (o : Ordering). is_eq (ordering_then o (nat_cmp a.number a.number))) (itself (rank a.kind))
    ∙ ap is_eq (itself a.number)

-- what stands under the name
pub set-at : (d : Disk) (file : FileName) (o : Option FileState) → set d file o file ≡ o
set-at d file o = ap (λ (b : Bool). cond b o (d file)) (same_name-refl file)

-- what stands under another
pub set-other : (d : Disk) (file other : FileName) (o : Option FileState) → same_name file other ≡ false
    → set d file o other ≡ d other
set-other d file other o apart = ap (λ (b : Bool). cond b o (d other)) apart

back : (d : Disk) (file : FileName) (o : Option FileState) (other : FileName) (same : Bool)
    → same_name file other ≡ same → set (set d file o) file (d file) other ≡ d other
back d file o other true e =
    ap (λ (b : Bool). cond b (d file) (cond b o (d other))) e ∙ ap d (same_name-true file other e)
back d file o other false e = ap (λ (b : Bool). cond b (d file) (cond b o (d other))) e

-- what the disk had, put back
pub set-back : (d : Disk) (file : FileName) (o : Option FileState) → set (set d file o) file (d file) ≡ d
set-back d file o = λ i other. back d file o other (same_name file other) refl i

same : (d : Disk) (file other : FileName) (at : Bool) → same_name file other ≡ at
    → set d file (d file) other ≡ d other
same d file other true e = ap (λ (b : Bool). cond b (d file) (d other)) e ∙ ap d (same_name-true file other e)
same d file other false e = ap (λ (b : Bool). cond b (d file) (d other)) e

-- what the disk has, put in its own place
pub set-same : (d : Disk) (file : FileName) → set d file (d file) ≡ d
set-same d file = λ i other. same d file other (same_name file other) refl i
