-- As many lines are served as end within what was read.
use Rattle.std.proofs.Common.{◌≡◌, ◌≤◌, ◌<◌, ℕ, suc, ◌+◌, ◌==◌, ◌&&◌, false, List, [], ◌∷◌, ◌++◌, length, refl, sym, ap, ◌∙◌, inl, inr, append_assoc, arith}
use Rattle.std.proofs.lemmas.Bool.{cases_Bool}
use Rattle.std.proofs.lemmas.List.{length-append, append_cancel_right}
use Rattle.qq_ports.specs.Lines.{HasNoFeed, onto_first, lines_of}
use Rattle.qq_cluster_run.specs.Inputs.{Input, raw_lines_of, inputs_by, inputs_of, EndsWith, feed_count}

-- ---- as many lines with their carriage returns as without

onto-some : (b : ℕ) (xs : List (List ℕ)) → 0 < length (onto_first b xs)
onto-some b [] = omega arith
onto-some b (x ∷ xs) = omega arith

some-raw : (b : ℕ) (bs : List ℕ) → 0 < length (raw_lines_of (b ∷ bs))
some-raw b bs =
    elim (cases_Bool (b == 10))
    [ inl feed ↦ rw feed (omega arith) | inr other ↦ rw other (onto-some b (raw_lines_of bs)) ]

onto-least : (b : ℕ) (xs : List (List ℕ)) → length xs ≤ length (onto_first b xs)
onto-least b [] = omega arith
onto-least b (x ∷ xs) = omega arith

onto-same : (b : ℕ) (xs : List (List ℕ)) → 0 < length xs → length (onto_first b xs) ≡ length xs
onto-same b [] lt = absurd (omega (arith, lt))
onto-same b (x ∷ xs) lt = refl

onto-both : (b : ℕ) (xs ys : List (List ℕ)) → length xs ≡ length ys
    → length (onto_first b xs) ≡ length (onto_first b ys)
onto-both b [] [] is = refl
onto-both b [] (y ∷ ys) is = absurd (omega (arith, is))
onto-both b (x ∷ xs) [] is = absurd (omega (arith, is))
onto-both b (x ∷ xs) (y ∷ ys) is = is

many-past : (b : ℕ) (bs : List ℕ) → (b == 10) ≡ false → length (raw_lines_of bs) ≡ length (lines_of bs)
    → length (raw_lines_of (b ∷ bs)) ≡ length (lines_of (b ∷ bs))
many-past b [] other is =
    elim (cases_Bool (b == 13)) [ inl return ↦ rw (other, return) refl | inr past ↦ rw (other, past) refl ]
many-past b (c ∷ cs) other is = elim (cases_Bool ((b == 13) && (c == 10))) [
  | inl return ↦ rw (other, return) (onto-same b (raw_lines_of (c ∷ cs)) (some-raw c cs) ∙ is)
  | inr past ↦ rw (other, past) (onto-both b (raw_lines_of (c ∷ cs)) (lines_of (c ∷ cs)) is)
]

as-many : (bytes : List ℕ) → length (raw_lines_of bytes) ≡ length (lines_of bytes)
as-many [] = refl
as-many (b ∷ bs) = elim (cases_Bool (b == 10)) [
  | inl feed ↦ rw feed (ap suc (as-many bs))
  | inr other ↦ many-past b bs other (as-many bs)
]

by-many : (raws lines : List (List ℕ)) → length raws ≡ length lines → length (inputs_by raws lines) ≡ length raws
by-many [] lines is = refl
by-many (raw ∷ raws) [] is = absurd (omega (arith, is))
by-many (raw ∷ raws) (line ∷ lines) is =
    let same : length raws ≡ length lines = omega (arith, is) in ap suc (by-many raws lines same)

many-inputs : (bytes : List ℕ) → length (inputs_of bytes) ≡ length (raw_lines_of bytes)
many-inputs bytes = by-many (raw_lines_of bytes) (lines_of bytes) (as-many bytes)

-- ---- each line feed ends a line

more-raws : (front last : List ℕ)
    → feed_count front + length (raw_lines_of last) ≤ length (raw_lines_of (front ++ last))
more-raws [] last = omega arith
more-raws (b ∷ bs) last = elim (cases_Bool (b == 10)) [
  | inl feed ↦ rw feed (omega (arith, more-raws bs last))
  | inr other ↦ rw other (omega (arith, more-raws bs last, onto-least b (raw_lines_of (bs ++ last))))
]

feeds-none : (piece : List ℕ) → HasNoFeed piece → feed_count piece ≡ 0
feeds-none [] none = refl
feeds-none (b ∷ bs) (other, none) = rw other (feeds-none bs none)

feeds-both : (front last : List ℕ) → feed_count (front ++ last) ≡ feed_count front + feed_count last
feeds-both [] last = omega arith
feeds-both (b ∷ bs) last = elim (cases_Bool (b == 10)) [
  | inl feed ↦ rw feed (omega (arith, feeds-both bs last))
  | inr other ↦ rw other (feeds-both bs last)
]

-- bytes end with a piece of a line and what is unread, and the lines of these were not served
pub all-served : (bytes rest read piece : List ℕ) (served left : List Input) → inputs_of bytes ≡ served ++ left
    → left ≡ inputs_of (piece ++ rest) → HasNoFeed piece → EndsWith bytes (piece ++ rest) → bytes ≡ read ++ rest
    → feed_count read ≤ length served
all-served bytes rest read piece served left all unread none (front, ends) is =
    let read_is : read ≡ front ++ piece =
    append_cancel_right read (front ++ piece) rest (sym is ∙ ends ∙ sym (append_assoc front piece rest)) in
    let feeds : feed_count read ≡ feed_count front + 0 =
    ap feed_count read_is ∙ feeds-both front piece ∙ ap (λ (n : ℕ). feed_count front + n) (feeds-none piece none) in
    let parts : length (inputs_of bytes) ≡ length served + length left = ap length all ∙ length-append served left in
    let lines : length (inputs_of bytes) ≡ length (raw_lines_of (front ++ (piece ++ rest))) =
    many-inputs bytes ∙ ap (λ (l : List ℕ). length (raw_lines_of l)) ends in
    let last : length left ≡ length (raw_lines_of (piece ++ rest)) =
    ap length unread ∙ many-inputs (piece ++ rest) in
    omega (arith, feeds, parts, lines, last, more-raws front (piece ++ rest))
