-- The first line of an input, and those behind it.
use Rattle.std.proofs.Common.{◌≡◌, ℕ, ◌==◌, false, List, [], ◌∷◌, Option, Some, None, length, refl, inl, inr, sym, ap, subst, ◌∙◌, append-nil}
use Rattle.std.specs.Prelude.{nat_le}
use Rattle.std.proofs.lemmas.Bool.{cases_Bool, cond-true, cond-false, le-leb, lt-leb}
use Rattle.qq_ports.specs.declared.fault.TheConstants.{LINE_LIMIT}
use Rattle.qq_ports.specs.Lines.{FirstLine, onto_prefix, cut_at_feed, line_by_cut, first_line, onto_first, lines_of, IsFirst, IsLong, FirstLineLeads}
use Rattle.qq_cluster_run.specs.Inputs.{Input, raw_lines_of, input_of, inputs_by, inputs_of, EndsWith}

-- ---- lines with their carriage returns

last_raw : List ℕ → List (List ℕ)
last_raw [] = []
last_raw (b ∷ bs) = (b ∷ bs) ∷ []

-- what the first cut says of them
LeadsRaw : List ℕ → Option (List ℕ × List ℕ) → Type 0
LeadsRaw bytes None = raw_lines_of bytes ≡ last_raw bytes
LeadsRaw bytes (Some parts) = raw_lines_of bytes ≡ parts.0 ∷ raw_lines_of parts.1

raw_past : (b : ℕ) (bs : List ℕ) (o : Option (List ℕ × List ℕ)) → (b == 10) ≡ false → LeadsRaw bs o
    → LeadsRaw (b ∷ bs) (onto_prefix b o)
unfolding LeadsRaw last_raw
raw_past b [] None other leads = rw other refl
raw_past b (c ∷ cs) None other leads = rw other (ap (onto_first b) leads)
raw_past b bs (Some parts) other leads = rw other (ap (onto_first b) leads)

raw_leads : (bytes : List ℕ) → LeadsRaw bytes (cut_at_feed bytes)
unfolding LeadsRaw last_raw
raw_leads [] = refl
raw_leads (b ∷ bs) = elim (cases_Bool (b == 10)) [
  | inl feed ↦ subst (LeadsRaw (b ∷ bs)) (sym (cond-true (b == 10) (Some ([], bs)) (onto_prefix b (cut_at_feed bs)) feed))
      (rw feed refl)
  | inr other ↦
      subst (LeadsRaw (b ∷ bs))
      (sym (cond-false (b == 10) (Some ([], bs)) (onto_prefix b (cut_at_feed bs)) other))
      (raw_past b bs (cut_at_feed bs) other (raw_leads bs))
]

raw_by_cut : (b : ℕ) (bs : List ℕ) (o : Option (List ℕ × List ℕ)) → LeadsRaw (b ∷ bs) o
    → raw_lines_of (b ∷ bs) ≡ (line_by_cut (b ∷ bs) o).raw ∷ raw_lines_of (line_by_cut (b ∷ bs) o).rest
unfolding LeadsRaw last_raw
raw_by_cut b bs None leads = leads
raw_by_cut b bs (Some parts) leads = leads

-- ---- what a line leaves

-- what a cut leaves is what the bytes end with
CutEnds : List ℕ → Option (List ℕ × List ℕ) → Type 0
CutEnds bytes None = Unit {0}
CutEnds bytes (Some parts) = EndsWith bytes parts.1

onto_ends : (b : ℕ) (bs : List ℕ) (o : Option (List ℕ × List ℕ)) → CutEnds bs o → CutEnds (b ∷ bs) (onto_prefix b o)
unfolding CutEnds
onto_ends b bs None ends = tt
onto_ends b bs (Some parts) (front, is) = (b ∷ front, ap (λ (l : List ℕ). b ∷ l) is)

cut_ends : (bytes : List ℕ) → CutEnds bytes (cut_at_feed bytes)
unfolding CutEnds
cut_ends [] = tt
cut_ends (b ∷ bs) = elim (cases_Bool (b == 10)) [
  | inl feed ↦
      subst (CutEnds (b ∷ bs)) (sym (cond-true (b == 10) (Some ([], bs)) (onto_prefix b (cut_at_feed bs)) feed))
      (b ∷ [], refl)
  | inr other ↦
      subst (CutEnds (b ∷ bs))
      (sym (cond-false (b == 10) (Some ([], bs)) (onto_prefix b (cut_at_feed bs)) other))
      (onto_ends b bs (cut_at_feed bs) (cut_ends bs))
]

LineEnds : List ℕ → Option FirstLine → Type 0
LineEnds bytes None = Unit {0}
LineEnds bytes (Some first) = EndsWith bytes first.rest

line_ends_by : (bytes : List ℕ) (o : Option (List ℕ × List ℕ)) → CutEnds bytes o
    → EndsWith bytes (line_by_cut bytes o).rest
unfolding CutEnds
line_ends_by bytes None ends = (bytes, sym (append-nil bytes))
line_ends_by bytes (Some parts) ends = ends

line_ends : (bytes : List ℕ) → LineEnds bytes (first_line bytes)
unfolding LineEnds
line_ends [] = tt
line_ends (b ∷ bs) = line_ends_by (b ∷ bs) (cut_at_feed (b ∷ bs)) (cut_ends (b ∷ bs))

pub takes_ends : (bytes line rest : List ℕ) → IsFirst bytes line rest → EndsWith bytes rest
unfolding LineEnds
takes_ends bytes line rest takes = subst (LineEnds bytes) takes.is (line_ends bytes)

-- ---- the law of an input's lines

inputs_by-leads : (raws lines : List (List ℕ)) (raw line : List ℕ) (more_raws more_lines : List (List ℕ))
    → raws ≡ raw ∷ more_raws → lines ≡ line ∷ more_lines
    → inputs_by raws lines ≡ input_of raw line ∷ inputs_by more_raws more_lines
inputs_by-leads raws lines raw line more_raws more_lines r l =
    ap (λ (rs : List (List ℕ)). inputs_by rs lines) r
    ∙ ap (λ (ls : List (List ℕ)). inputs_by (raw ∷ more_raws) ls) l

-- what the first line leads
LeadsInputs : List ℕ → Option FirstLine → Type 0
LeadsInputs bytes None = Unit {0}
LeadsInputs bytes (Some first) = inputs_of bytes ≡ input_of first.raw first.line ∷ inputs_of first.rest

inputs_lead : (bytes : List ℕ) → FirstLineLeads bytes (first_line bytes) → LeadsInputs bytes (first_line bytes)
unfolding LeadsInputs
inputs_lead [] law = tt
inputs_lead (b ∷ bs) law =
    let first : FirstLine = line_by_cut (b ∷ bs) (cut_at_feed (b ∷ bs)) in
    inputs_by-leads (raw_lines_of (b ∷ bs)) (lines_of (b ∷ bs)) first.raw first.line (raw_lines_of first.rest)
    (lines_of first.rest) (raw_by_cut b bs (cut_at_feed (b ∷ bs)) (raw_leads (b ∷ bs))) law

-- a line that isn't too long
pub takes_input : (bytes line rest : List ℕ) → ((xs : List ℕ) → FirstLineLeads xs (first_line xs))
    → IsFirst bytes line rest → inputs_of bytes ≡ Some line ∷ inputs_of rest
unfolding LeadsInputs
takes_input bytes line rest law takes =
    subst (LeadsInputs bytes) takes.is (inputs_lead bytes (law bytes))
    ∙ ap (λ (l : Input). l ∷ inputs_of rest)
    (cond-true (nat_le (length takes.raw) LINE_LIMIT) (Some line) None (le-leb (length takes.raw) LINE_LIMIT takes.fits))

-- a line that is too long
pub record BeginsLong (bytes : List ℕ) : Type 0 where
  pub left : List Input
  pub is : inputs_of bytes ≡ None ∷ left

long_by : (bytes : List ℕ) (o : Option FirstLine) → LeadsInputs bytes o → IsLong o → BeginsLong bytes
unfolding LeadsInputs
long_by bytes None leads long = absurd long
long_by bytes (Some first) leads long = record {
  left = inputs_of first.rest;
  is = leads ∙ ap (λ (l : Input). l ∷ inputs_of first.rest)
      (cond-false (nat_le (length first.raw) LINE_LIMIT) (Some first.line) None
      (lt-leb (length first.raw) LINE_LIMIT long));
}

pub long_begins : (bytes : List ℕ) → FirstLineLeads bytes (first_line bytes) → IsLong (first_line bytes)
    → BeginsLong bytes
long_begins bytes law long = long_by bytes (first_line bytes) (inputs_lead bytes law) long
