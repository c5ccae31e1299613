-- The first word of a text, and what stands behind its blank.
use Rattle.std.proofs.Common.{◌≡◌, ℕ, ◌+◌, ◌<◌, ◌≤◌, List, [], ◌∷◌, Some, None, length, take, drop, get_or, position, sym, subst, arith}
use Rattle.std.specs.List.{position_or_len}
use Rattle.std.specs.Str.{IsUtf8, IsCharBoundary}
use Rattle.std.proofs.lemmas.Bool.{eqb-true}
use Rattle.std.proofs.lemmas.Grind.{common_steps}
use Rattle.std.proofs.lemmas.List.Quantifiers.{position-Some}
use Rattle.std.proofs.lemmas.List.Splits.{slice_split_first, slice_split_none, length-slice_split}
use Rattle.std.proofs.lemmas.List.Sums.{fails_before_first}
use Rattle.std.proofs.lemmas.Str.{IsCharBoundary-before_ascii, IsCharBoundary-after_ascii}
use Rattle.qq_script_lines.specs.Words.{is_blank, words_of}

first-at : (text : List ℕ) (place : ℕ) → position is_blank text ≡ Some place → position_or_len is_blank text ≡ place
first-at text place found = grind (arith, common_steps)

blank-at : (text : List ℕ) (place : ℕ) → position is_blank text ≡ Some place → get_or text place 0 ≡ 32
blank-at text place found = eqb-true _ 32 (position-Some is_blank text place 0 found).1

pub cut-before : (text : List ℕ) (place : ℕ) → position is_blank text ≡ Some place → IsCharBoundary text place
cut-before text place found =
    let blank = blank-at text place found in
    IsCharBoundary-before_ascii text place (position-Some is_blank text place 0 found).0 (omega (arith, blank))

pub cut-behind : (text : List ℕ) (place : ℕ) → IsUtf8 text → position is_blank text ≡ Some place
    → IsCharBoundary text (place + 1)
cut-behind text place utf8 found =
    let blank = blank-at text place found in
    IsCharBoundary-after_ascii text place utf8 (position-Some is_blank text place 0 found).0 (omega (arith, blank))

pub first-and-rest : (text : List ℕ) (place : ℕ) → position is_blank text ≡ Some place
    → words_of text ≡ take place text ∷ words_of (drop (place + 1) text)
first-and-rest text place found =
    let at = first-at text place found in
    let within : position_or_len is_blank text < length text = subst (λ n. n < length text) (sym at)
    (position-Some is_blank text place 0 found).0 in
    subst (λ n. words_of text ≡ take n text ∷ words_of (drop (n + 1) text)) at
    (slice_split_first is_blank text 0 within)

-- a text without a blank
no-blank : (text : List ℕ) → position is_blank text ≡ None → length text ≤ position_or_len is_blank text
no-blank text none = grind (arith, common_steps)

pub one-word : (text : List ℕ) → position is_blank text ≡ None → words_of text ≡ text ∷ []
one-word text none =
    let long = no-blank text none in
    slice_split_none is_blank text (λ k d lt. fails_before_first is_blank text k d (omega (arith, long, lt)))

pub some-word : (text : List ℕ) → 0 < length (words_of text)
some-word text = omega (arith, length-slice_split is_blank text)
