-- The log files that a disk shows are each there once, by their numbers.
use Rattle.std.proofs.Common.{◌≡◌, ◌≤◌, ◌<◌, ◌+◌, ◌^◌, ℕ, zero, suc, Bool, true, false, eqb, List, [], Option, Some, None, Less, nat_cmp, map, refl, sym, ap, subst, ◌∙◌, inl, inr, arith}
use Rattle.std.specs.Prelude.{unwrap_or, Contains}
use Rattle.std.specs.List.{AllByRecursion}
use Rattle.std.specs.List.Sorted.{IsStrictlySortedBy, IsStrictlyIncreasing}
use Rattle.std.proofs.lemmas.Bool.{eqb-true}
use Rattle.std.proofs.lemmas.Bool.Decides.{nat_tests}
use Rattle.std.proofs.lemmas.Map.Keys.{IsStrictlyIncreasing-from_sorted}
use Rattle.qq_base.proofs.Lists.{In, AllByRecursion-in, AllByRecursion-map, AllByRecursion-weaker}
use Rattle.qq_disk.specs.Disk.{Disk, contents}
use Rattle.qq_disk.specs.Image.{log_of}
use Rattle.qq_dump.specs.Files.{LogFile, files_from, log_files, with_file}
use Rattle.qq_dump.proofs.Listed.{at-in, in-at}

module _ (d : Disk) where
  -- a file of one of so many numbers from b on, as the disk shows it
  abbrev Shows : ℕ → ℕ → LogFile → Type 0
  Shows b count file =
      (b ≤ file.number) × (file.number < b + count) × (contents d (log_of file.number) ≡ Some file.bytes)

  from-each : (count b : ℕ) → AllByRecursion (Shows b count) (files_from d b count)
  from-each zero b = tt
  from-each (suc count) b =
      by (contents d (log_of b)) refl
      (AllByRecursion-weaker (Shows (suc b) count) (Shows b (suc count))
      (λ file shows. (omega (arith, shows.0), omega (arith, shows.1), shows.2)) (files_from d (suc b) count)
      (from-each count (suc b)))
    where
      by : (o : Option (List ℕ)) → contents d (log_of b) ≡ o
          → AllByRecursion (Shows b (suc count)) (files_from d (suc b) count)
          → AllByRecursion (Shows b (suc count)) (with_file b o (files_from d (suc b) count))
      by None absent rest = rest
      by (Some bytes) shown rest = ((omega arith, omega arith, shown), rest)

  past-first : (count b : ℕ) (file : LogFile) → Shows b (suc count) file → eqb file.number b ≡ false
      → Shows (suc b) count file
  past-first count b file shows is =
      let apart : b < file.number = grind (arith, nat_tests, shows.0, is) in
      (omega (arith, apart), omega (arith, shows.1), shows.2)

  from-all : (count b : ℕ) (file : LogFile) → Shows b count file → In file (files_from d b count)
  from-all zero b file shows = absurd (omega (arith, shows.0, shows.1))
  from-all (suc count) b file shows =
      by (eqb file.number b) refl (contents d (log_of b)) refl (λ above. from-all count (suc b) file above)
    where
      by : (same : Bool) → eqb file.number b ≡ same → (o : Option (List ℕ)) → contents d (log_of b) ≡ o
          → (Shows (suc b) count file → In file (files_from d (suc b) count))
          → In file (with_file b o (files_from d (suc b) count))
      by true is None absent rest =
          absurd (let e : None ≡ Some file.bytes =
          sym absent ∙ ap (λ (n : ℕ). contents d (log_of n)) (sym (eqb-true file.number b is)) ∙ shows.2 in cc)
      by true is (Some bytes) shown rest =
          let same : Some bytes ≡ Some file.bytes =
          sym shown ∙ ap (λ (n : ℕ). contents d (log_of n)) (sym (eqb-true file.number b is)) ∙ shows.2 in
          let bytes-are : file.bytes ≡ bytes = ap (λ (o : Option (List ℕ)). unwrap_or o []) (sym same) in
          inl (λ i. record { number = eqb-true file.number b is i; bytes = bytes-are i })
      by false is None absent rest = rest (past-first count b file shows is)
      by false is (Some bytes) shown rest = inr (rest (past-first count b file shows is))

  from-rise : (count b : ℕ)
      → IsStrictlySortedBy nat_cmp (map (λ (file : LogFile). file.number) (files_from d b count))
  unfolding IsStrictlySortedBy
  from-rise zero b = tt
  from-rise (suc count) b = by (contents d (log_of b)) (from-rise count (suc b))
    where
      above : AllByRecursion (λ n. nat_cmp b n ≡ Less)
          (map (λ (file : LogFile). file.number) (files_from d (suc b) count))
      above =
          AllByRecursion-map (Shows (suc b) count) (λ n. nat_cmp b n ≡ Less) (λ (file : LogFile). file.number)
          (files_from d (suc b) count)
          (λ file shows. let less : b < file.number = omega (arith, shows.0) in grind (arith, nat_tests))
          (from-each count (suc b))

      by : (o : Option (List ℕ))
          → IsStrictlySortedBy nat_cmp (map (λ (file : LogFile). file.number) (files_from d (suc b) count))
          → IsStrictlySortedBy nat_cmp
          (map (λ (file : LogFile). file.number) (with_file b o (files_from d (suc b) count)))
      by None rest = rest
      by (Some bytes) rest = (above, rest)

-- ---- all of them, of so many numbers

rise-of : (d : Disk) (count : ℕ) (files : List LogFile) → files ≡ files_from d 0 count
    → IsStrictlyIncreasing (map (λ (file : LogFile). file.number) files)
rise-of d count files are =
    IsStrictlyIncreasing-from_sorted (map (λ (file : LogFile). file.number) files)
    (subst (λ (l : List LogFile). IsStrictlySortedBy nat_cmp (map (λ (file : LogFile). file.number) l)) (sym are)
    (from-rise d count 0))

each-of : (d : Disk) (count : ℕ) (files : List LogFile) → files ≡ files_from d 0 count → (file : LogFile)
    → Contains files file → contents d (log_of file.number) ≡ Some file.bytes
each-of d count files are file (k, less, is) =
    (AllByRecursion-in (Shows d 0 count) file files
    (subst (AllByRecursion (Shows d 0 count)) (sym are) (from-each d count 0)) (in-at files file k less is)).2

all-of : (d : Disk) (count : ℕ) (files : List LogFile) → files ≡ files_from d 0 count → (file : LogFile)
    → file.number < count → contents d (log_of file.number) ≡ Some file.bytes → Contains files file
all-of d count files are file less shown =
    at-in file files
    (subst (In file) (sym are) (from-all d count 0 file (omega arith, omega (arith, less), shown)))

whole : (d : Disk) → log_files d ≡ files_from d 0 (2 ^ 64)
unfolding log_files
whole d = refl

pub files-rise : (d : Disk) → IsStrictlyIncreasing (map (λ (file : LogFile). file.number) (log_files d))
files-rise d = rise-of d (2 ^ 64) (log_files d) (whole d)

pub files-each : (d : Disk) (file : LogFile) → Contains (log_files d) file
    → contents d (log_of file.number) ≡ Some file.bytes
files-each d = each-of d (2 ^ 64) (log_files d) (whole d)

pub files-all : (d : Disk) (file : LogFile) → file.number < 2 ^ 64
    → contents d (log_of file.number) ≡ Some file.bytes → Contains (log_files d) file
files-all d = all-of d (2 ^ 64) (log_files d) (whole d)
