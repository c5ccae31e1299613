-- Where files rise, a file's run is found at one place.
use Rattle.std.proofs.Common.{◌≡◌, ◌<◌, ℕ, zero, suc, Bool, true, false, cond, eqb, leb, List, [], ◌∷◌, ◌++◌, length, get_or, slice_get, min, Option, Some, None, refl, sym, ap, ◌∙◌, inl, inr, ◌⊎◌, arith}
use Rattle.std.specs.Prelude.{nat_lt, option_to_list}
use Rattle.std.specs.List.Sorted.{IsPartitionPoint}
use Rattle.std.proofs.lemmas.Bool.{cases_eq, cond-true, cond-false, eq-eqb, ne_eqb}
use Rattle.qq_log.specs.declared.head.Span.{Span}
use Rattle.qq_wal.specs.Marks.{is_rising}
use Rattle.qq_wal.specs.Spans.{files_in, find_file, range_at, range_in, span_to, spans_to}
use Rattle.qq_wal.proofs.Rising.{items-apart}

-- a run of another file is passed over
past-run : (cut : Option ℕ) (file : ℕ) (s : Span) (spans : List Span) → (s.file ≡ file → ⊥)
    → find_file file (spans_to cut (s ∷ spans)) ≡ find_file file (spans_to cut spans)
past-run None file s spans apart =
    cond-false (eqb s.file file) (Some (s.first.0, s.last.0)) (find_file file (spans_to None spans))
    (ne_eqb s.file file apart)
past-run (Some keep) file s spans apart = by (leb s.first.0 keep)
  where
    rest : List Span
    rest = spans_to (Some keep) spans

    by : (t : Bool) → find_file file (option_to_list (cond t (Some (record s { last = record { 0 = min s.last.0 keep } })) None) ++ rest)
        ≡ find_file file rest
    by true =
        cond-false (eqb s.file file) (Some (s.first.0, min s.last.0 keep)) (find_file file rest)
        (ne_eqb s.file file apart)
    by false = refl

none-found : (cut : Option ℕ) (file : ℕ) (spans : List Span)
    → ((k : ℕ) (d : Span) → k < length spans → (get_or spans k d).file ≡ file → ⊥)
    → find_file file (spans_to cut spans) ≡ None
none-found None file [] apart = refl
none-found (Some keep) file [] apart = refl
none-found cut file (s ∷ spans) apart =
    past-run cut file s spans (apart 0 s (omega arith))
    ∙ none-found cut file spans (λ k d within. apart (suc k) d (omega arith))

-- the run of the file, where no other is one of it
this-run : (cut : Option ℕ) (file : ℕ) (s : Span) (spans : List Span) → s.file ≡ file
    → find_file file (spans_to cut spans) ≡ None
    → range_at cut file (Some s) ≡ find_file file (spans_to cut (s ∷ spans))
this-run None file s spans here none =
    ap (λ (t : Bool). cond t (Some (s.first.0, s.last.0)) None) (eq-eqb s.file file here)
    ∙ sym (cond-true (eqb s.file file) (Some (s.first.0, s.last.0)) (find_file file (spans_to None spans))
    (eq-eqb s.file file here))
this-run (Some keep) file s spans here none =
    ap (λ (t : Bool). cond t (range_in (span_to (Some keep) s)) None) (eq-eqb s.file file here)
    ∙ by (leb s.first.0 keep)
  where
    rest : List Span
    rest = spans_to (Some keep) spans

    left : Span
    left = record s { last = record { 0 = min s.last.0 keep } }

    by : (t : Bool) → range_in (cond t (Some left) None) ≡ find_file file (option_to_list (cond t (Some left) None) ++ rest)
    by true =
        sym (cond-true (eqb s.file file) (Some (s.first.0, min s.last.0 keep)) (find_file file rest)
        (eq-eqb s.file file here))
    by false = sym none

found-place : (cut : Option ℕ) (file : ℕ) (spans : List Span) (place : ℕ)
    → ((k : ℕ) (d : Span) → k < length spans → (k ≡ place → ⊥) → (get_or spans k d).file ≡ file → ⊥)
    → range_at cut file (slice_get spans place) ≡ find_file file (spans_to cut spans)
found-place None file [] place apart = refl
found-place (Some keep) file [] place apart = refl
found-place cut file (s ∷ spans) zero apart = by (cases_eq s.file file)
  where
    none : find_file file (spans_to cut spans) ≡ None
    none = none-found cut file spans (λ k d within. apart (suc k) d (omega arith) (λ e. absurd (omega (arith, e))))

    by : (s.file ≡ file) ⊎ (s.file ≡ file → ⊥) → range_at cut file (Some s) ≡ find_file file (spans_to cut (s ∷ spans))
    by (inl here) = this-run cut file s spans here none
    by (inr away) =
        cond-false (eqb s.file file) (range_in (span_to cut s)) None (ne_eqb s.file file away)
        ∙ sym (past-run cut file s spans away ∙ none)
found-place cut file (s ∷ spans) (suc place) apart =
    found-place cut file spans place
    (λ k d within away. apart (suc k) d (omega arith) (λ e. away (omega (arith, e))))
    ∙ sym (past-run cut file s spans (apart 0 s (omega arith) (λ e. absurd (omega (arith, e)))))

pub found-at : (cut : Option ℕ) (file : ℕ) (spans : List Span) (place : ℕ) → is_rising (files_in spans) ≡ true
    → IsPartitionPoint (λ (s : Span). nat_lt s.file file ≡ true) (λ (s : Span). nat_lt s.file file ≡ false) spans place
    → range_at cut file (slice_get spans place) ≡ find_file file (spans_to cut spans)
found-at cut file spans place rising is =
    found-place cut file spans place (items-apart (λ (s : Span). s.file) spans rising file place is)
