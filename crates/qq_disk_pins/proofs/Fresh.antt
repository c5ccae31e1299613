-- What a disk in memory counts.
use Rattle.std.proofs.Common.{◌≡◌, ℕ, true, false, [], ◌∷◌, Option, Some, None, Result, Ok, Err, refl, sym, ap, ◌∙◌}
use Rattle.std.specs.Global.{Vec}
use Rattle.std.proofs.lemmas.Bool.{false≢true}
use Rattle.qq_base.specs.Causes.{raise}
use Rattle.qq_disk.specs.declared.fault.DiskFault.{DiskFault}
use Rattle.qq_disk.specs.declared.fault.DiskFault.TheVariants.{Failed, Memory}
use Rattle.qq_mem_disk.specs.declared.counter.Counter.{Counter}
use Rattle.qq_mem_disk.specs.Counter.{Counts, IsFresh, count_call, is_failed, will_fail}

pub fresh_works : (c : Counter) → IsFresh c → will_fail c ≡ false
fresh_works c new = rw new.fuse (rw new.fails refl)

pub fresh_calls : (c : Counter) → IsFresh c → (count_call c).calls ≡ 1
fresh_calls c new = ap raise new.calls

pub fresh_faults : (c : Counter) → IsFresh c → (count_call c).faults ≡ 0
fresh_faults c new = rw (fresh_works c new) new.faults

-- ---- calls that are to fail

abbrev started : Vec ℕ → Option ℕ → Counter
started fails fuse = record { calls = 0; faults = 0; fails = fails; fuse = fuse }

failed-is : (result : Result ℕ DiskFault) → is_failed result ≡ true → result ≡ Err Failed
failed-is (Ok value) is = absurd (false≢true is)
failed-is (Err Failed) is = refl
failed-is (Err (Memory memory)) is = absurd (false≢true is)

not-failed : (result : Result ℕ DiskFault) → is_failed result ≡ false → result ≡ Err Failed → ⊥
not-failed result passed is = false≢true (sym passed ∙ ap is_failed is)

-- two calls in a row
twice : (old mid new : Counter) (first second : Result ℕ DiskFault) → Counts old mid first → Counts mid new second
    → new ≡ count_call (count_call old)
twice old mid new first second one two = two.counted ∙ ap count_call one.counted

then-fails : (old mid new : Counter) (first second : Result ℕ DiskFault) → Counts old mid first → Counts mid new second
    → will_fail (count_call old) ≡ true → second ≡ Err Failed
then-fails old mid new first second one two fails =
    failed-is second (two.failed ∙ ap will_fail one.counted ∙ fails)

listed-passes : (fails : Vec ℕ) → fails.items ≡ 2 ∷ [] → will_fail (started fails None) ≡ false
listed-passes fails is = rw is refl

listed-fails : (fails : Vec ℕ) → fails.items ≡ 2 ∷ [] → will_fail (count_call (started fails None)) ≡ true
listed-fails fails is = rw is refl

fuse-passes : (fails : Vec ℕ) → fails.items ≡ [] → will_fail (started fails (Some 1)) ≡ false
fuse-passes fails is = rw is refl

fuse-fails : (fails : Vec ℕ) → will_fail (count_call (started fails (Some 1))) ≡ true
fuse-fails fails = refl

pub listed-first : (fails : Vec ℕ) (new : Counter) (result : Result ℕ DiskFault) → fails.items ≡ 2 ∷ []
    → Counts (started fails None) new result
    → (new.calls ≡ 1) × (new.faults ≡ 0) × (result ≡ Err Failed → ⊥)
listed-first fails new result is one = (
  ap (λ (c : Counter). c.calls) one.counted,
  ap (λ (c : Counter). c.faults) one.counted ∙ rw (listed-passes fails is) refl,
  not-failed result (one.failed ∙ listed-passes fails is),
)

pub listed-second : (fails : Vec ℕ) (mid new : Counter) (first second : Result ℕ DiskFault) → fails.items ≡ 2 ∷ []
    → Counts (started fails None) mid first → Counts mid new second
    → (new.calls ≡ 2) × (new.faults ≡ 1) × (second ≡ Err Failed)
listed-second fails mid new first second is one two = (
  ap (λ (c : Counter). c.calls) (twice (started fails None) mid new first second one two),
  ap (λ (c : Counter). c.faults) (twice (started fails None) mid new first second one two)
      ∙ rw (listed-fails fails is) (rw (listed-passes fails is) refl),
  then-fails (started fails None) mid new first second one two (listed-fails fails is),
)

pub fuse-burns : (fails : Vec ℕ) (mid new : Counter) (first second : Result ℕ DiskFault) → fails.items ≡ []
    → Counts (started fails (Some 1)) mid first → Counts mid new second
    → (first ≡ Err Failed → ⊥) × (new.faults ≡ 1) × (second ≡ Err Failed)
fuse-burns fails mid new first second is one two = (
  not-failed first (one.failed ∙ fuse-passes fails is),
  ap (λ (c : Counter). c.faults) (twice (started fails (Some 1)) mid new first second one two)
      ∙ rw (fuse-passes fails is) refl,
  then-fails (started fails (Some 1)) mid new first second one two (fuse-fails fails),
)
