-- The log files among the names that a disk lists are all that it shows, by their numbers.
use Rattle.std.proofs.Common.{◌≡◌, ◌≤◌, ◌<◌, ◌^◌, ◌+◌, ◌++◌, ℕ, zero, suc, Bool, true, false, cond, eqb, List, [], ◌∷◌, length, Option, Some, None, Ordering, Less, Equal, Greater, nat_cmp, refl, sym, ap, subst, ◌∙◌, inl, inr, arith, is_some, IsTrue, slice_index, slice_index_or}
use Rattle.std.specs.Prelude.{unwrap_or}
use Rattle.std.specs.List.{AllByRecursion}
use Rattle.std.specs.List.Sorted.{IsStrictlySortedBy}
use Rattle.std.specs.Ordering.{ordering_then}
use Rattle.std.proofs.lemmas.Bool.{eqb-true}
use Rattle.std.proofs.lemmas.Bool.Decides.{nat_tests}
use Rattle.qq_base.proofs.Lists.{In, AllByRecursion-in, AllByRecursion-weaker}
use Rattle.qq_disk.specs.declared.name.FileKind.{FileKind}
use Rattle.qq_disk.specs.declared.name.FileKind.TheVariants.{Log, Segment, Snapshot}
use Rattle.qq_disk.specs.declared.name.FileName.{FileName}
use Rattle.qq_disk.specs.Disk.{Disk, IsListed, IsListing, contents, now}
use Rattle.qq_disk.specs.Facts.{DiskFacts}
use Rattle.qq_disk.specs.Image.{log_of}
use Rattle.qq_disk.specs.Name.{name_cmp, rank}
use Rattle.qq_dump.specs.Files.{AreShown, LogFile, files_from, log_files, with_file}
use Rattle.qq_dump.specs.Listed.{file_of, files_of, log_numbers}

-- ---- the numbers of log files among names

-- in a list by its place there
pub in-at : {A : Type 0} (xs : List A) (x : A) (k : ℕ) → k < length xs → slice_index_or xs k x ≡ x → In x xs
in-at [] x k less is = absurd (omega arith)
in-at (y ∷ ys) x zero less is = inl (sym is)
in-at (y ∷ ys) x (suc k) less is = inr (in-at ys x k (omega arith) is)

pub at-in : {A : Type 0} (x : A) (xs : List A) → In x xs → (k : ℕ) × (k < length xs) × (slice_index_or xs k x ≡ x)
at-in x [] here = absurd here
at-in x (y ∷ ys) (inl same) = (0, omega arith, sym same)
at-in x (y ∷ ys) (inr later) = let r = at-in x ys later in (suc r.0, omega (arith, r.1), r.2)

-- a name before that of a log file is that of a log file with a lower number
ordered : (a b : ℕ) → nat_cmp a b ≡ Less → a < b
ordered a b is = grind (arith, nat_tests)

less-log : (f : FileName) (n : ℕ) → name_cmp f (log_of n) ≡ Less → f.number < n
less-log f n is = by (nat_cmp (rank f.kind) 0) refl is
  where
    by : (o : Ordering) → nat_cmp (rank f.kind) 0 ≡ o → ordering_then o (nat_cmp f.number n) ≡ Less → f.number < n
    by Less rank-is is = absurd (omega (arith, ordered (rank f.kind) 0 rank-is))
    by Equal rank-is is = ordered f.number n is
    by Greater rank-is is = absurd cc

is-log : (f : FileName) → eqb (rank f.kind) 0 ≡ true → f ≡ log_of f.number
is-log f is = by f.kind refl is
  where
    by : (kind : FileKind) → f.kind ≡ kind → eqb (rank kind) 0 ≡ true → f ≡ log_of f.number
    by Log kind-is is = λ i. record { kind = kind-is i; number = f.number }
    by Segment kind-is is = absurd cc
    by Snapshot kind-is is = absurd cc

-- what holds of the numbers
module _ (P : ℕ → Type 0) where
  each-number : (names : List FileName) → ((n : ℕ) → In (log_of n) names → P n)
      → AllByRecursion P (log_numbers names)
  each-number [] so = tt
  each-number (f ∷ names) so = by (eqb (rank f.kind) 0) refl (each-number names (λ n here. so n (inr here)))
    where
      by : (log : Bool) → eqb (rank f.kind) 0 ≡ log → AllByRecursion P (log_numbers names)
          → AllByRecursion P (cond log (f.number ∷ []) [] ++ log_numbers names)
      by true is rest = (so f.number (inl (sym (is-log f is))), rest)
      by false is rest = rest

numbers-have : (n : ℕ) (names : List FileName) → In (log_of n) names → In n (log_numbers names)
numbers-have n [] here = absurd here
numbers-have n (f ∷ names) (inl same) = subst (λ (f : FileName). In n (log_numbers (f ∷ names))) same (inl refl)
numbers-have n (f ∷ names) (inr later) = by (eqb (rank f.kind) 0) (numbers-have n names later)
  where
    by : (log : Bool) → In n (log_numbers names) → In n (cond log (f.number ∷ []) [] ++ log_numbers names)
    by true rest = inr rest
    by false rest = rest

numbers-rise : (names : List FileName) → IsStrictlySortedBy name_cmp names
    → IsStrictlySortedBy nat_cmp (log_numbers names)
unfolding IsStrictlySortedBy
numbers-rise [] sorted = tt
numbers-rise (f ∷ names) sorted = by (eqb (rank f.kind) 0) (numbers-rise names sorted.1)
  where
    above : AllByRecursion (λ n. nat_cmp f.number n ≡ Less) (log_numbers names)
    above = each-number (λ n. nat_cmp f.number n ≡ Less) names (λ n here.
        let less : f.number < n =
        less-log f n (AllByRecursion-in (λ g. name_cmp f g ≡ Less) (log_of n) names sorted.0 here) in
        grind (arith, nat_tests))

    by : (log : Bool) → IsStrictlySortedBy nat_cmp (log_numbers names)
        → IsStrictlySortedBy nat_cmp (cond log (f.number ∷ []) [] ++ log_numbers names)
    by true rest = (above, rest)
    by false rest = rest

-- ---- the files of numbers

pub shown-bytes : (o : Option (List ℕ)) (bytes : List ℕ) → o ≡ Some bytes → unwrap_or o [] ≡ bytes
shown-bytes o bytes is = ap (λ (o : Option (List ℕ)). unwrap_or o []) is

module _ (d : Disk) where
  abbrev Between : ℕ → ℕ → ℕ → Type 0
  Between b e n = (b ≤ n) × (n < e) × IsListed d (log_of n)

  -- from b on and below e, these are the numbers of the log files
  record Are (b e : ℕ) (numbers : List ℕ) : Type 0 where
    pub rise : IsStrictlySortedBy nat_cmp numbers
    pub each : AllByRecursion (Between b e) numbers
    pub all : (n : ℕ) → Between b e n → In n numbers

  -- the first number is b
  module _ (b e : ℕ) (bytes : List ℕ) (shown : contents d (log_of b) ≡ Some bytes) (files : List LogFile)
      (on : (numbers : List ℕ) → Are (suc b) e numbers → files_of d numbers ≡ files) where
    above-first : (n : ℕ) (numbers : List ℕ) → b ≡ n → AllByRecursion (λ m. nat_cmp n m ≡ Less) numbers
        → AllByRecursion (Between b e) numbers → AllByRecursion (Between (suc b) e) numbers
    above-first n [] same rise each = tt
    above-first n (m ∷ numbers) same rise each = (
      (omega (arith, same, ordered n m rise.0), each.0.1, each.0.2),
      above-first n numbers same rise.1 each.1,
    )

    first : (numbers : List ℕ) → Are b e numbers → In b numbers → files_of d numbers ≡ with_file b (Some bytes) files
    unfolding IsStrictlySortedBy
    first [] are here = absurd here
    first (n ∷ numbers) are (inl same) = λ i. file i ∷ rest i
      where
        file : file_of d n ≡ record { number = b; bytes = bytes }
        file =
            ap (file_of d) (sym same)
            ∙ ap (λ (bs : List ℕ). record { number = b; bytes = bs })
            (shown-bytes (contents d (log_of b)) bytes shown)

        rest : files_of d numbers ≡ files
        rest = on numbers (record {
          rise = are.rise.1;
          each = above-first n numbers same are.rise.0 are.each.1;
          all = λ m between. not-first m between (are.all m (omega (arith, between.0), between.1, between.2));
        })
          where
            not-first : (m : ℕ) → Between (suc b) e m → In m (n ∷ numbers) → In m numbers
            not-first m between (inl is) = absurd (omega (arith, between.0, is, same))
            not-first m between (inr later) = later
    first (n ∷ numbers) are (inr later) =
        absurd (omega (
          arith,
          are.each.0.0,
          ordered n b (AllByRecursion-in (λ m. nat_cmp n m ≡ Less) b numbers are.rise.0 later),
        ))

  -- no number is b
  module _ (b e : ℕ) (absent : contents d (log_of b) ≡ None) where
    above : (n : ℕ) → Between b e n → Between (suc b) e n
    above n between = by (eqb n b) refl
      where
        by : (same : Bool) → eqb n b ≡ same → Between (suc b) e n
        by true is =
            let here : IsListed d (log_of b) = subst (λ (n : ℕ). IsListed d (log_of n)) (eqb-true n b is) between.2 in
            absurd (let e : false ≡ true = subst (λ (o : Option (List ℕ)). IsTrue (is_some o)) absent here in cc)
        by false is =
            let apart : b < n = grind (arith, nat_tests, between.0, is) in
            (omega (arith, apart), between.1, between.2)

    none : (numbers : List ℕ) → Are b e numbers → Are (suc b) e numbers
    none numbers are = record {
      rise = are.rise;
      each = AllByRecursion-weaker (Between b e) (Between (suc b) e) above numbers are.each;
      all = λ n between. are.all n (omega (arith, between.0), between.1, between.2);
    }

  files-are : (count b e : ℕ) (numbers : List ℕ) → e ≡ b + count → Are b e numbers
      → files_of d numbers ≡ files_from d b count
  files-are zero b e [] end are = refl
  files-are zero b e (n ∷ numbers) end are = absurd (omega (arith, end, are.each.0.0, are.each.0.1))
  files-are (suc count) b e numbers end are =
      by (contents d (log_of b)) refl (λ numbers are. files-are count (suc b) e numbers (omega (arith, end)) are)
    where
      by : (o : Option (List ℕ)) → contents d (log_of b) ≡ o
          → ((numbers : List ℕ) → Are (suc b) e numbers → files_of d numbers ≡ files_from d (suc b) count)
          → files_of d numbers ≡ with_file b o (files_from d (suc b) count)
      by None absent on = on numbers (none b e absent numbers are)
      by (Some bytes) shown on =
          first b e bytes shown (files_from d (suc b) count) on numbers are
          (are.all b
          (omega arith, omega (arith, end), subst (λ (o : Option (List ℕ)). IsTrue (is_some o)) (sym shown) refl))

  pub listed-are : (names : List FileName) → IsListing d names
      → ((i : ℕ) → slice_index (log_numbers names) i < 2 ^ 64)
      → files_of d (log_numbers names) ≡ log_files d
  unfolding log_files
  listed-are names listing within = files-are (2 ^ 64) 0 (2 ^ 64) numbers (omega arith) (record {
    rise = numbers-rise names listing.rising;
    each = each numbers within (each-number (λ n. IsListed d (log_of n)) names shown);
    all = λ n between.
        let c = (listing.listed (log_of n)).1 between.2 in
        numbers-have n names (in-at names (log_of n) c.0 c.1 c.2);
  })
    where
      numbers : List ℕ
      numbers = log_numbers names

      shown : (n : ℕ) → In (log_of n) names → IsListed d (log_of n)
      shown n here = (listing.listed (log_of n)).0 (at-in (log_of n) names here)

      each : (numbers : List ℕ) → ((i : ℕ) → slice_index numbers i < 2 ^ 64)
          → AllByRecursion (λ n. IsListed d (log_of n)) numbers → AllByRecursion (Between 0 (2 ^ 64)) numbers
      each [] within listed = tt
      each (n ∷ numbers) within listed = (
        (omega arith, within 0, listed.0),
        each numbers (λ i. within (suc i)) listed.1,
      )

-- what was written of the files of these numbers was written of the log files of a disk that was only read
pub all-shown : {D : Type 0} (facts : DiskFacts D) (old new : D) (names : List FileName) (numbers : List ℕ)
    → facts.tells new ≡ facts.tells old → (IsTrue (facts.tells old) → facts.past new ≡ facts.past old)
    → (IsTrue (facts.tells old) → IsListing (now (facts.past old)) names) → numbers ≡ log_numbers names
    → ((i : ℕ) → slice_index numbers i < 2 ^ 64) → (IsWritten : List LogFile → Type 0)
    → ((files : List LogFile) × (IsTrue (facts.tells new) → files ≡ files_of (now (facts.past new)) numbers)
    × IsWritten files)
    → (files : List LogFile) × AreShown facts old files × IsWritten files
all-shown facts old new names numbers still same listing numbers-are range IsWritten (files, are, written) =
    (files, shown, written)
  where
    shown : AreShown facts old files
    shown told =
        are (subst IsTrue (sym still) told) ∙ ap (λ (p : List Disk). files_of (now p) numbers) (same told)
        ∙ ap (files_of (now (facts.past old))) numbers-are
        ∙ listed-are (now (facts.past old)) names (listing told)
        (subst (λ (l : List ℕ). (i : ℕ) → slice_index l i < 2 ^ 64) numbers-are range)
