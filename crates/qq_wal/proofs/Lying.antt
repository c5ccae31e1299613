-- Where entries lie, as the log keeps it.
use Rattle.std.proofs.Common.{◌≡◌, ◌≤◌, ◌<◌, ◌+◌, ℕ, zero, suc, Bool, true, false, cond, eqb, leb, List, [], ◌∷◌, ◌++◌, length, take, replicate, min, Option, Some, None, refl, sym, ap, subst, ◌∙◌, inl, inr, ◌⊎◌, arith, append-nil}
use Rattle.std.proofs.Math.Nat.{le-min, min-eq_left, min-eq_right, min-le_left, min-le_right}
use Rattle.std.specs.Prelude.{option_to_list}
use Rattle.std.proofs.lemmas.Bool.{cases_lt, cond-true, cond-false, false≢true, eqb-true, eq-eqb, ne_eqb, leb-true, leb-false}
use Rattle.std.proofs.lemmas.List.{length-take-le}
use Rattle.std.specs.List.{AllByRecursion}
use Rattle.qq_log.specs.declared.head.Span.{Span}
use Rattle.qq_wal.specs.declared.ranges.QueueRanges.{QueueRanges}
use Rattle.qq_wal.specs.Entries.{AreApart, IsRangeOf, LieAs, Rise, file_at}
use Rattle.qq_wal.specs.Ranges.{begin_file, enter_file, new_ranges, places_of, write}
use Rattle.qq_wal.specs.Spans.{Range, find_file, first_or, least_kept, range_behind, range_to, span_of, span_to, spans_to}

-- ---- the file of an entry

at-cut-to : (keep : ℕ) (files : List ℕ) (i n : ℕ) → file_at (take keep files) i ≡ Some n
    → (i ≤ keep) × (file_at files i ≡ Some n)
at-cut-to keep files zero n e = absurd cc
at-cut-to zero files (suc i) n e = absurd cc
at-cut-to (suc keep) [] (suc i) n e = absurd cc
at-cut-to (suc keep) (m ∷ files) (suc zero) n e = (omega arith, e)
at-cut-to (suc keep) (m ∷ files) (suc (suc i)) n e =
    let later : (suc i ≤ keep) × (file_at files (suc i) ≡ Some n) = at-cut-to keep files (suc i) n e in
    (omega (arith, later.0), later.1)

at-cut : (keep : ℕ) (files : List ℕ) (i n : ℕ) → i ≤ keep → file_at files i ≡ Some n
    → file_at (take keep files) i ≡ Some n
at-cut keep files zero n h e = absurd cc
at-cut zero files (suc i) n h e = absurd (omega (arith, h))
at-cut (suc keep) [] (suc i) n h e = absurd cc
at-cut (suc keep) (m ∷ files) (suc zero) n h e = e
at-cut (suc keep) (m ∷ files) (suc (suc i)) n h e = at-cut keep files (suc i) n (omega (arith, h)) e

at-within : (files : List ℕ) (i n : ℕ) → file_at files i ≡ Some n → (1 ≤ i) × (i ≤ length files)
at-within files zero n e = absurd cc
at-within [] (suc i) n e = absurd cc
at-within (m ∷ files) (suc zero) n e = (omega arith, omega arith)
at-within (m ∷ files) (suc (suc i)) n e =
    let later : (1 ≤ suc i) × (suc i ≤ length files) = at-within files (suc i) n e in
    (omega arith, omega (arith, later.1))

at-some : (files : List ℕ) (i : ℕ) → 1 ≤ i → i ≤ length files → (n : ℕ) × (file_at files i ≡ Some n)
at-some files zero h k = absurd (omega (arith, h))
at-some [] (suc i) h k = absurd (omega (arith, k))
at-some (m ∷ files) (suc zero) h k = (m, refl)
at-some (m ∷ files) (suc (suc i)) h k = at-some files (suc i) (omega arith) (omega (arith, k))

at-left : (xs ys : List ℕ) (i n : ℕ) → file_at xs i ≡ Some n → file_at (xs ++ ys) i ≡ Some n
at-left xs ys zero n e = absurd cc
at-left [] ys (suc i) n e = absurd cc
at-left (m ∷ xs) ys (suc zero) n e = e
at-left (m ∷ xs) ys (suc (suc i)) n e = at-left xs ys (suc i) n e

at-added : (xs : List ℕ) (count m i : ℕ) → length xs < i → i ≤ length xs + count
    → file_at (xs ++ replicate count m) i ≡ Some m
at-added xs count m zero h k = absurd (omega (arith, h))
at-added [] zero m (suc i) h k = absurd (omega (arith, h, k))
at-added [] (suc count) m (suc zero) h k = refl
at-added [] (suc count) m (suc (suc i)) h k = at-added [] count m (suc i) (omega arith) (omega (arith, k))
at-added (x ∷ xs) count m (suc zero) h k = absurd (omega (arith, h))
at-added (x ∷ xs) count m (suc (suc i)) h k = at-added xs count m (suc i) (omega (arith, h)) (omega (arith, k))

at-split : (xs : List ℕ) (count m i n : ℕ) → file_at (xs ++ replicate count m) i ≡ Some n
    → (file_at xs i ≡ Some n) ⊎ ((length xs < i) × (i ≤ length xs + count) × (m ≡ n))
at-split xs count m zero n e = absurd cc
at-split [] zero m (suc i) n e = absurd cc
at-split [] (suc count) m (suc zero) n e = inr (omega arith, omega arith, cc)
at-split [] (suc count) m (suc (suc i)) n e = by (at-split [] count m (suc i) n e)
  where
    by : (file_at [] (suc i) ≡ Some n) ⊎ ((0 < suc i) × (suc i ≤ 0 + count) × (m ≡ n))
        → (file_at [] (suc (suc i)) ≡ Some n) ⊎ ((0 < suc (suc i)) × (suc (suc i) ≤ 0 + suc count) × (m ≡ n))
    by (inl e') = absurd cc
    by (inr h) = inr (omega arith, omega (arith, h.1), h.2)
at-split (x ∷ xs) count m (suc zero) n e = inl e
at-split (x ∷ xs) count m (suc (suc i)) n e = by (at-split xs count m (suc i) n e)
  where
    by : (file_at xs (suc i) ≡ Some n) ⊎ ((length xs < suc i) × (suc i ≤ length xs + count) × (m ≡ n))
        → (file_at xs (suc i) ≡ Some n)
        ⊎ ((length (x ∷ xs) < suc (suc i)) × (suc (suc i) ≤ length (x ∷ xs) + count) × (m ≡ n))
    by (inl e') = inl e'
    by (inr h) = inr (omega (arith, h.0), omega (arith, h.1), h.2)

-- ---- the range of a file

cut-range : (files : List ℕ) (keep n : ℕ) (r : Range) → Rise files → keep ≤ length files → IsRangeOf files n r
    → IsRangeOf (take keep files) n (range_to keep r)
cut-range files keep n None rise within is = λ i e. is i (at-cut-to keep files i n e).1
cut-range files keep n (Some r) rise within is = by (leb r.0 keep) refl
  where
    by : (t : Bool) → leb r.0 keep ≡ t
        → IsRangeOf (take keep files) n (cond t (Some (r.0, min r.1 keep)) None)
    by false e = λ i at.
        let here = at-cut-to keep files i n at in
        let low = (is.2 i here.1).0 in
        let above = leb-false r.0 keep e in
        omega (arith, here.0, low, above)
    by true e = (at-cut keep files r.0 n low is.0, last (cases_lt r.1 keep), all)
      where
        low : r.0 ≤ keep
        low = leb-true r.0 keep e

        last : (r.1 < keep) ⊎ (keep ≤ r.1) → file_at (take keep files) (min r.1 keep) ≡ Some n
        last (inl less) =
            subst (λ (k : ℕ). file_at (take keep files) k ≡ Some n) (sym (min-eq_left {n = r.1} {m = keep} (omega (arith, less))))
            (at-cut keep files r.1 n (omega (arith, less)) is.1)
        last (inr le) =
            let first = at-within files r.0 n is.0 in
            let there = at-some files keep (omega (arith, first.0, low)) within in
            let up : n ≤ there.0 = rise r.0 keep n there.0 low is.0 there.1 in
            let down : there.0 ≤ n = rise keep r.1 there.0 n le there.1 is.1 in
            let same : there.0 ≡ n = omega (arith, up, down) in
            subst (λ (k : ℕ). file_at (take keep files) k ≡ Some n) (sym (min-eq_right {n = keep} {m = r.1} le))
            (at-cut keep files keep n (omega arith)
            (subst (λ (k : ℕ). file_at files keep ≡ Some k) same there.1))

        all : (i : ℕ) → file_at (take keep files) i ≡ Some n → (r.0 ≤ i) × (i ≤ min r.1 keep)
        all i at = (low-of, high (cases_lt r.1 keep))
          where
            here : (i ≤ keep) × (file_at files i ≡ Some n)
            here = at-cut-to keep files i n at

            low-of : r.0 ≤ i
            low-of = (is.2 i here.1).0

            high : (r.1 < keep) ⊎ (keep ≤ r.1) → i ≤ min r.1 keep
            high (inl less) =
                subst (λ (k : ℕ). i ≤ k) (sym (min-eq_left {n = r.1} {m = keep} (omega (arith, less)))) (is.2 i here.1).1
            high (inr le) = subst (λ (k : ℕ). i ≤ k) (sym (min-eq_right {n = keep} {m = r.1} le)) here.0

-- those that are added lie in their own file
added-range : (xs : List ℕ) (count m : ℕ) (r : Range) → IsRangeOf xs m r
    → IsRangeOf (xs ++ replicate count m) m (range_behind (length xs) count r)
added-range xs count m r is = by (eqb count 0) refl
  where
    some : (r : Range) → IsRangeOf xs m r → 0 < count
        → IsRangeOf (xs ++ replicate count m) m (Some (first_or (length xs + 1) r, length xs + count))
    some None is more = (
      at-added xs count m (length xs + 1) (omega arith) (omega (arith, more)),
      at-added xs count m (length xs + count) (omega (arith, more)) (omega arith),
      λ i at. those i (at-split xs count m i m at),
    )
      where
        those : (i : ℕ) → (file_at xs i ≡ Some m) ⊎ ((length xs < i) × (i ≤ length xs + count) × (m ≡ m))
            → (length xs + 1 ≤ i) × (i ≤ length xs + count)
        those i (inl e) = absurd (is i e)
        those i (inr h) = (omega (arith, h.0), h.1)
    some (Some r) is more = (
      at-left xs (replicate count m) r.0 m is.0,
      at-added xs count m (length xs + count) (omega (arith, more)) (omega arith),
      λ i at. those i (at-split xs count m i m at),
    )
      where
        first : (1 ≤ r.0) × (r.0 ≤ length xs)
        first = at-within xs r.0 m is.0

        those : (i : ℕ) → (file_at xs i ≡ Some m) ⊎ ((length xs < i) × (i ≤ length xs + count) × (m ≡ m))
            → (r.0 ≤ i) × (i ≤ length xs + count)
        those i (inl e) =
            let within = at-within xs i m e in
            ((is.2 i e).0, omega (arith, within.1))
        those i (inr h) = (omega (arith, h.0, first.1), h.1)

    by : (t : Bool) → eqb count 0 ≡ t
        → IsRangeOf (xs ++ replicate count m) m (cond t r (Some (first_or (length xs + 1) r, length xs + count)))
    by true e =
        subst (λ (k : ℕ). IsRangeOf (xs ++ replicate k m) m r) (sym (eqb-true count 0 e))
        (subst (λ (l : List ℕ). IsRangeOf l m r) (sym (append-nil xs)) is)
    by false e = some r is (more (cases_lt 0 count))
      where
        more : (0 < count) ⊎ (count ≤ 0) → 0 < count
        more (inl less) = less
        more (inr le) = absurd (false≢true (sym e ∙ eq-eqb count 0 (omega (arith, le))))

-- and in no other
other-range : (xs : List ℕ) (count m n : ℕ) (r : Range) → (n ≡ m → ⊥) → IsRangeOf xs n r
    → IsRangeOf (xs ++ replicate count m) n r
other-range xs count m n None away is = λ i at. by i (at-split xs count m i n at)
  where
    by : (i : ℕ) → (file_at xs i ≡ Some n) ⊎ ((length xs < i) × (i ≤ length xs + count) × (m ≡ n)) → ⊥
    by i (inl e) = is i e
    by i (inr h) = away (sym h.2)
other-range xs count m n (Some r) away is = (
  at-left xs (replicate count m) r.0 n is.0,
  at-left xs (replicate count m) r.1 n is.1,
  λ i at. by i (at-split xs count m i n at),
)
  where
    by : (i : ℕ) → (file_at xs i ≡ Some n) ⊎ ((length xs < i) × (i ≤ length xs + count) × (m ≡ n))
        → (r.0 ≤ i) × (i ≤ r.1)
    by i (inl e) = is.2 i e
    by i (inr h) = absurd (away (sym h.2))

-- ---- runs of entries that are cut

abbrev pub range_cut : Option ℕ → Range → Range
range_cut None r = r
range_cut (Some keep) r = range_to keep r

cut-none : (cut : Option ℕ) → range_cut cut None ≡ None
cut-none None = refl
cut-none (Some keep) = refl

-- a run of another file, and one of this file with no other behind it
head-other : (n : ℕ) (cut : Option ℕ) (s : Span) (rest : List Span) → eqb s.file n ≡ false
    → find_file n (spans_to cut (s ∷ []) ++ rest) ≡ find_file n rest
head-other n None s rest away = cond-false (eqb s.file n) (Some (s.first.0, s.last.0)) (find_file n rest) away
head-other n (Some keep) s rest away = by (leb s.first.0 keep)
  where
    left : Span
    left = record s { last = record { 0 = min s.last.0 keep } }

    by : (t : Bool) → find_file n ((option_to_list (cond t (Some left) None) ++ []) ++ rest) ≡ find_file n rest
    by true = cond-false (eqb s.file n) (Some (s.first.0, min s.last.0 keep)) (find_file n rest) away
    by false = refl

head-here : (n : ℕ) (cut : Option ℕ) (s : Span) (rest : List Span) → eqb s.file n ≡ true → find_file n rest ≡ None
    → find_file n (spans_to cut (s ∷ []) ++ rest) ≡ range_cut cut (Some (s.first.0, s.last.0))
head-here n None s rest here none = cond-true (eqb s.file n) (Some (s.first.0, s.last.0)) (find_file n rest) here
head-here n (Some keep) s rest here none = by (leb s.first.0 keep)
  where
    left : Span
    left = record s { last = record { 0 = min s.last.0 keep } }

    by : (t : Bool) → find_file n ((option_to_list (cond t (Some left) None) ++ []) ++ rest)
        ≡ cond t (Some (s.first.0, min s.last.0 keep)) None
    by true = cond-true (eqb s.file n) (Some (s.first.0, min s.last.0 keep)) (find_file n rest) here
    by false = none

head-of : (cut : Option ℕ) (s : Span) (spans : List Span)
    → spans_to cut (s ∷ spans) ≡ spans_to cut (s ∷ []) ++ spans_to cut spans
head-of cut s spans = ap (λ (l : List Span). l ++ spans_to cut spans) (sym (append-nil (option_to_list (span_to cut s))))

none-apart : (n : ℕ) (s : Span) (spans : List Span) → AllByRecursion (λ (t : Span). s.file ≡ t.file → ⊥) spans
    → s.file ≡ n → find_file n spans ≡ None
none-apart n s [] away same = refl
none-apart n s (t ∷ spans) away same =
    cond-false (eqb t.file n) (Some (t.first.0, t.last.0)) (find_file n spans)
    (ne_eqb t.file n (λ e. away.0 (same ∙ sym e)))
    ∙ none-apart n s spans away.1 same

-- what is found in runs that are cut is what was found, cut
find-cut : (n : ℕ) (cut : Option ℕ) (spans : List Span) → AreApart spans
    → find_file n (spans_to cut spans) ≡ range_cut cut (find_file n spans)
find-cut n cut [] apart = sym (cut-none cut)
find-cut n cut (s ∷ spans) apart =
    ap (find_file n) (head-of cut s spans) ∙ by (eqb s.file n) refl (find-cut n cut spans apart.1)
  where
    by : (t : Bool) → eqb s.file n ≡ t → find_file n (spans_to cut spans) ≡ range_cut cut (find_file n spans)
        → find_file n (spans_to cut (s ∷ []) ++ spans_to cut spans)
        ≡ range_cut cut (cond t (Some (s.first.0, s.last.0)) (find_file n spans))
    by true here later =
        head-here n cut s (spans_to cut spans) here
        (later ∙ ap (range_cut cut) (none-apart n s spans apart.0 (eqb-true s.file n here)) ∙ cut-none cut)
    by false away later = head-other n cut s (spans_to cut spans) away ∙ later

mins : (a b c : ℕ) → min a (min b c) ≡ min (min a b) c
mins a b c =
    let x : ℕ = min a (min b c) in
    let y : ℕ = min (min a b) c in
    let up : x ≤ y =
    le-min {k = x} {a = min a b} {b = c}
    (le-min {k = x} {a = a} {b = b} (min-le_left a (min b c))
    (omega (arith, min-le_right a (min b c), min-le_left b c)))
    (omega (arith, min-le_right a (min b c), min-le_right b c)) in
    let down : y ≤ x =
    le-min {k = y} {a = a} {b = min b c} (omega (arith, min-le_left (min a b) c, min-le_left a b))
    (le-min {k = y} {a = b} {b = c} (omega (arith, min-le_left (min a b) c, min-le_right a b))
    (min-le_right (min a b) c)) in
    omega (arith, up, down)

-- a cut behind a cut
cut-twice : (cut : Option ℕ) (keep : ℕ) (r : Range)
    → range_to (least_kept cut keep) r ≡ range_to keep (range_cut cut r)
cut-twice None keep r = refl
cut-twice (Some cut) keep None = refl
cut-twice (Some cut) keep (Some r) =
    by (leb r.0 (min cut keep)) (leb r.0 cut) (leb r.0 keep) refl refl refl
  where
    by : (both one two : Bool) → leb r.0 (min cut keep) ≡ both → leb r.0 cut ≡ one → leb r.0 keep ≡ two
        → cond both (Some (r.0, min r.1 (min cut keep))) None
        ≡ range_to keep (cond one (Some (r.0, min r.1 cut)) None)
    by true true true b o t =
        ap (λ (k : ℕ). Some (r.0, k)) (mins r.1 cut keep)
        ∙ sym (cond-true (leb r.0 keep) (Some (r.0, min (min r.1 cut) keep)) None t)
    by false true false b o t = sym (cond-false (leb r.0 keep) (Some (r.0, min (min r.1 cut) keep)) None t)
    by false false true b o t = refl
    by false false false b o t = refl
    by true false two b o t =
        let low = leb-true r.0 (min cut keep) b in
        let above = leb-false r.0 cut o in
        absurd (omega (arith, low, above, min-le_left cut keep))
    by true true false b o t =
        let low = leb-true r.0 (min cut keep) b in
        let above = leb-false r.0 keep t in
        absurd (omega (arith, low, above, min-le_right cut keep))
    by false true true b o t =
        let above = leb-false r.0 (min cut keep) b in
        let low = le-min {k = r.0} {a = cut} {b = keep} (leb-true r.0 cut o) (leb-true r.0 keep t) in
        absurd (omega (arith, low, above))

-- ---- lists of runs, one behind the other

all-spans : (spans : List Span) → spans_to None spans ≡ spans
all-spans [] = refl
all-spans (s ∷ spans) = ap (λ (l : List Span). s ∷ l) (all-spans spans)

pub find-right : (n : ℕ) (xs ys : List Span) → find_file n xs ≡ None → find_file n (xs ++ ys) ≡ find_file n ys
find-right n [] ys none = refl
find-right n (s ∷ xs) ys none = by (eqb s.file n) none (find-right n xs ys)
  where
    by : (t : Bool) → cond t (Some (s.first.0, s.last.0)) (find_file n xs) ≡ None
        → (find_file n xs ≡ None → find_file n (xs ++ ys) ≡ find_file n ys)
        → cond t (Some (s.first.0, s.last.0)) (find_file n (xs ++ ys)) ≡ find_file n ys
    by true none later = absurd cc
    by false none later = later none

pub find-some : (n : ℕ) (xs ys : List Span) (r : ℕ × ℕ) → find_file n xs ≡ Some r → find_file n (xs ++ ys) ≡ Some r
find-some n [] ys r found = absurd cc
find-some n (s ∷ xs) ys r found = by (eqb s.file n) found (find-some n xs ys r)
  where
    by : (t : Bool) → cond t (Some (s.first.0, s.last.0)) (find_file n xs) ≡ Some r
        → (find_file n xs ≡ Some r → find_file n (xs ++ ys) ≡ Some r)
        → cond t (Some (s.first.0, s.last.0)) (find_file n (xs ++ ys)) ≡ Some r
    by true found later = found
    by false found later = later found

find-left : (n : ℕ) (xs ys : List Span) → find_file n ys ≡ None → find_file n (xs ++ ys) ≡ find_file n xs
find-left n [] ys none = none
find-left n (s ∷ xs) ys none =
    ap (λ (r : Range). cond (eqb s.file n) (Some (s.first.0, s.last.0)) r) (find-left n xs ys none)

find-own : (n : ℕ) (r : Range) → find_file n (span_of n r) ≡ r
find-own n None = refl
find-own n (Some r) = cond-true (eqb n n) (Some (r.0, r.1)) None (eq-eqb n n refl)

find-other : (n file : ℕ) (r : Range) → (n ≡ file → ⊥) → find_file n (span_of file r) ≡ None
find-other n file None away = refl
find-other n file (Some r) away = cond-false (eqb file n) (Some (r.0, r.1)) None (ne_eqb file n (λ e. away (sym e)))

-- what holds of the file of each run, holds of each that is left
all-left : (P : ℕ → Type 0) (cut : Option ℕ) (spans : List Span) → AllByRecursion (λ (s : Span). P s.file) spans
    → AllByRecursion (λ (s : Span). P s.file) (spans_to cut spans)
all-left P cut [] all = tt
all-left P None (s ∷ spans) all = (all.0, all-left P None spans all.1)
all-left P (Some keep) (s ∷ spans) all = by (leb s.first.0 keep) (all-left P (Some keep) spans all.1)
  where
    by : (t : Bool) → AllByRecursion (λ (s : Span). P s.file) (spans_to (Some keep) spans)
        → AllByRecursion (λ (s : Span). P s.file)
        (option_to_list (cond t (Some (record s { last = record { 0 = min s.last.0 keep } })) None)
        ++ spans_to (Some keep) spans)
    by true later = (all.0, later)
    by false later = later

all-behind : (P : ℕ → Type 0) (spans : List Span) (file : ℕ) (r : Range) → P file
    → AllByRecursion (λ (s : Span). P s.file) spans → AllByRecursion (λ (s : Span). P s.file) (spans ++ span_of file r)
all-behind P [] file None own all = tt
all-behind P [] file (Some r) own all = (own, tt)
all-behind P (s ∷ spans) file r own all = (all.0, all-behind P spans file r own all.1)

apart-left : (cut : Option ℕ) (spans : List Span) → AreApart spans → AreApart (spans_to cut spans)
apart-left cut [] apart = tt
apart-left None (s ∷ spans) apart =
    (all-left (λ (n : ℕ). s.file ≡ n → ⊥) None spans apart.0, apart-left None spans apart.1)
apart-left (Some keep) (s ∷ spans) apart =
    by (leb s.first.0 keep) (all-left (λ (n : ℕ). s.file ≡ n → ⊥) (Some keep) spans apart.0)
    (apart-left (Some keep) spans apart.1)
  where
    by : (t : Bool) → AllByRecursion (λ (t : Span). s.file ≡ t.file → ⊥) (spans_to (Some keep) spans)
        → AreApart (spans_to (Some keep) spans)
        → AreApart (option_to_list (cond t (Some (record s { last = record { 0 = min s.last.0 keep } })) None)
        ++ spans_to (Some keep) spans)
    by true all later = (all, later)
    by false all later = later

apart-behind : (spans : List Span) (file : ℕ) (r : Range) → AllByRecursion (λ (s : Span). s.file < file) spans
    → AreApart spans → AreApart (spans ++ span_of file r)
apart-behind [] file None below apart = tt
apart-behind [] file (Some r) below apart = (tt, tt)
apart-behind (s ∷ spans) file r below apart = (
  all-behind (λ (n : ℕ). s.file ≡ n → ⊥) spans file r (λ e. absurd (omega (arith, e, below.0))) apart.0,
  apart-behind spans file r below.1 apart.1,
)

none-below : (n : ℕ) (spans : List Span) → AllByRecursion (λ (s : Span). s.file < n) spans → find_file n spans ≡ None
none-below n [] below = refl
none-below n (s ∷ spans) below =
    cond-false (eqb s.file n) (Some (s.first.0, s.last.0)) (find_file n spans)
    (ne_eqb s.file n (λ e. absurd (omega (arith, e, below.0))))
    ∙ none-below n spans below.1

-- ---- what is kept of a queue

pub new-lies : LieAs [] new_ranges
new-lies = record {
  rise = λ i j m n le e f. absurd (omega (arith, (at-within [] i m e).0, (at-within [] i m e).1));
  within = λ i n e. absurd (omega (arith, (at-within [] i n e).0, (at-within [] i n e).1));
  own = λ i e. omega (arith, (at-within [] i 0 e).0, (at-within [] i 0 e).1);
  older = λ n away i e. omega (arith, (at-within [] i n e).0, (at-within [] i n e).1);
  before = tt;
  apart = tt;
}

module _ (files : List ℕ) (q : QueueRanges) (lie : LieAs files q) where
  -- where its entries lie
  pub lie-found : (n : ℕ) → IsRangeOf files n (find_file n (places_of q))
  lie-found n = by (eqb n q.file) refl
    where
      by : (t : Bool) → eqb n q.file ≡ t → IsRangeOf files n (find_file n (places_of q))
      by true here =
          let same : n ≡ q.file = eqb-true n q.file here in
          subst (λ (k : ℕ). IsRangeOf files k (find_file k (places_of q))) (sym same)
          (subst (IsRangeOf files q.file)
          (sym (find-right q.file (spans_to q.cut q.older) (span_of q.file q.own)
          (none-below q.file (spans_to q.cut q.older) (all-left (λ (k : ℕ). k < q.file) q.cut q.older lie.before))
          ∙ find-own q.file q.own)) lie.own)
      by false away =
          let apart : n ≡ q.file → ⊥ = λ e. false≢true (sym away ∙ eq-eqb n q.file e) in
          subst (IsRangeOf files n)
          (sym (find-left n (spans_to q.cut q.older) (span_of q.file q.own) (find-other n q.file q.own apart)))
          (lie.older n apart)

  -- a file more is begun
  pub lie-begun : (n : ℕ) → q.file < n → LieAs files (begin_file n q)
  lie-begun n newer = record {
    rise = lie.rise;
    within = λ i m e. omega (arith, newer, lie.within i m e);
    own = λ i e. omega (arith, newer, lie.within i n e);
    older = λ m away. subst (λ (l : List Span). IsRangeOf files m (find_file m l)) (sym (all-spans (places_of q)))
        (lie-found m);
    before =
        all-behind (λ (k : ℕ). k < n) (spans_to q.cut q.older) q.file q.own newer
        (all-less (spans_to q.cut q.older) (all-left (λ (k : ℕ). k < q.file) q.cut q.older lie.before));
    apart =
        apart-behind (spans_to q.cut q.older) q.file q.own
        (all-left (λ (k : ℕ). k < q.file) q.cut q.older lie.before) (apart-left q.cut q.older lie.apart);
  }
    where
      all-less : (spans : List Span) → AllByRecursion (λ (s : Span). s.file < q.file) spans
          → AllByRecursion (λ (s : Span). s.file < n) spans
      all-less [] below = tt
      all-less (s ∷ spans) below = (omega (arith, newer, below.0), all-less spans below.1)

  pub lie-entered : (n : ℕ) → q.file ≤ n → LieAs files (enter_file n q)
  lie-entered n from = by (eqb q.file n) refl
    where
      by : (t : Bool) → eqb q.file n ≡ t → LieAs files (cond t q (begin_file n q))
      by true same = lie
      by false away = lie-begun n (below (cases_lt q.file n))
        where
          below : (q.file < n) ⊎ (n ≤ q.file) → q.file < n
          below (inl less) = less
          below (inr above) =
              absurd (false≢true (sym away ∙ eq-eqb q.file n (omega (arith, from, above))))

  -- a change is written
  pub lie-written : (keep count : ℕ) → keep ≤ length files
      → LieAs (take keep files ++ replicate count q.file) (write keep count q)
  lie-written keep count within = record {
    rise = λ i j m n le e f.
        rises i j m n le (at-split (take keep files) count q.file i m e) (at-split (take keep files) count q.file j n f);
    within = λ i n e. bound i n (at-split (take keep files) count q.file i n e);
    own =
        subst (λ (k : ℕ). IsRangeOf (take keep files ++ replicate count q.file) q.file
        (range_behind k count (range_to keep q.own))) long
        (added-range (take keep files) count q.file (range_to keep q.own)
        (cut-range files keep q.file q.own lie.rise within lie.own));
    older = λ n away.
        subst (IsRangeOf (take keep files ++ replicate count q.file) n) (sym (found n))
        (other-range (take keep files) count q.file n (range_to keep (find_file n (spans_to q.cut q.older))) away
        (cut-range files keep n (find_file n (spans_to q.cut q.older)) lie.rise within (lie.older n away)));
    before = lie.before;
    apart = lie.apart;
  }
    where
      long : length (take keep files) ≡ keep
      long = length-take-le keep files within

      found : (n : ℕ) → find_file n (spans_to (Some (least_kept q.cut keep)) q.older)
          ≡ range_to keep (find_file n (spans_to q.cut q.older))
      found n =
          find-cut n (Some (least_kept q.cut keep)) q.older lie.apart
          ∙ cut-twice q.cut keep (find_file n q.older)
          ∙ ap (range_to keep) (sym (find-cut n q.cut q.older lie.apart))

      bound : (i n : ℕ) → (file_at (take keep files) i ≡ Some n)
          ⊎ ((length (take keep files) < i) × (i ≤ length (take keep files) + count) × (q.file ≡ n)) → n ≤ q.file
      bound i n (inl e) = lie.within i n (at-cut-to keep files i n e).1
      bound i n (inr h) = omega (arith, h.2)

      rises : (i j m n : ℕ) → i ≤ j → (file_at (take keep files) i ≡ Some m)
          ⊎ ((length (take keep files) < i) × (i ≤ length (take keep files) + count) × (q.file ≡ m))
          → (file_at (take keep files) j ≡ Some n)
          ⊎ ((length (take keep files) < j) × (j ≤ length (take keep files) + count) × (q.file ≡ n)) → m ≤ n
      rises i j m n le (inl e) (inl f) =
          lie.rise i j m n le (at-cut-to keep files i m e).1 (at-cut-to keep files j n f).1
      rises i j m n le (inl e) (inr h) =
          let below = lie.within i m (at-cut-to keep files i m e).1 in omega (arith, below, h.2)
      rises i j m n le (inr h) (inl f) =
          let last = at-within (take keep files) j n f in absurd (omega (arith, le, h.0, last.1))
      rises i j m n le (inr h) (inr k) = omega (arith, h.2, k.2)
