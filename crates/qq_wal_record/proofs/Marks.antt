-- Records put together from their bodies and marks.
use Rattle.std.proofs.Common.{◌≡◌, ℕ, ◌+◌, ◌*◌, List, [], ◌∷◌, ◌++◌, length, map, take, drop, refl, ap, ◌∙◌, arith}
use Rattle.std.specs.List.{flat_map, sum}
use Rattle.std.proofs.lemmas.List.{length-append, take_at, drop_at}
use Rattle.std.proofs.lemmas.List.Sums.{sum_by-cons}
use Rattle.std.specs.Borrow.{Bor}
use Rattle.sha2.specs.Sha256.{sha256}
use Rattle.qq_digests.specs.Lanes.{with_prefix}
use Rattle.qq_digests.specs.Pieces.{pieces}
use Rattle.qq_fields.specs.Writing.{u64}
use Rattle.qq_wal_record.specs.declared.record.LogRecord.{LogRecord}
use Rattle.qq_wal_record.specs.Encoding.{body, record_encoding, record_mark}
use Rattle.qq_wal_record.specs.Mark.{mark}
use Rattle.qq_wal_record.specs.Marked.{body_length, marked, with_fronts}
use Rattle.qq_wal_record.proofs.Lengths.{record_mark_len}

-- the pieces of the records' lengths are their bodies
pub pieces_of : (rs : List LogRecord) → pieces (map body_length rs) (flat_map body rs) ≡ map body rs
pieces_of [] = refl
pieces_of (r ∷ rs) =
    let front : take (length (body r)) (body r ++ flat_map body rs) ≡ body r = take_at (body r) (flat_map body rs) (length (body r)) refl in
    let rest : drop (length (body r)) (body r ++ flat_map body rs) ≡ flat_map body rs = drop_at (body r) (flat_map body rs) (length (body r)) refl in
    (λ i. front i ∷ pieces (map body_length rs) (rest i)) ∙ ap (λ (l : List (List ℕ)). body r ∷ l) (pieces_of rs)

marked_are : (file : ℕ) (rs : List LogRecord) → flat_map (marked file) (map body rs) ≡ flat_map (record_encoding file) rs
unfolding record_encoding
marked_are file [] = refl
marked_are file (r ∷ rs) = ap (λ (l : List ℕ). marked file (body r) ++ l) (marked_are file rs)

pub encoded : (file : ℕ) (rs : List LogRecord) (bytes lengths : List ℕ) → bytes ≡ flat_map body rs
    → lengths ≡ map body_length rs → flat_map (marked file) (pieces lengths bytes) ≡ flat_map (record_encoding file) rs
encoded file rs bytes lengths eb el =
    (λ i. flat_map (marked file) (pieces (el i) (eb i))) ∙ ap (flat_map (marked file)) (pieces_of rs) ∙ marked_are file rs

-- a mark has eight bytes
pub encoded_len : (file : ℕ) (rs : List LogRecord)
    → length (flat_map (record_encoding file) rs) ≡ length (flat_map body rs) + 8 * length rs
unfolding record_encoding
encoded_len file [] = refl
encoded_len file (r ∷ rs) =
    omega (
      arith,
      length-append (record_encoding file r) (flat_map (record_encoding file) rs),
      length-append (body r) (record_mark file (body r)),
      length-append (body r) (flat_map body rs),
      record_mark_len file (body r),
      encoded_len file rs,
    )

pub bodies_len : (rs : List LogRecord) → sum (map body_length rs) ≡ length (flat_map body rs)
bodies_len [] = refl
bodies_len (r ∷ rs) =
    omega (
      arith,
      sum_by-cons (λ (n : ℕ). n) (body_length r) (map body_length rs),
      length-append (body r) (flat_map body rs),
      bodies_len rs,
    )

-- marks are what digests begin with
pub marks_of : (file : ℕ) (bodies : List (Bor (List ℕ)))
    → map (λ (d : List ℕ). take 8 d) (map sha256 (with_prefix (u64 file) bodies)) ≡ map (λ (b : Bor (List ℕ)). record_mark file b.now) bodies
unfolding record_mark mark
marks_of file [] = refl
marks_of file (b ∷ bs) = ap (λ (l : List (List ℕ)). record_mark file b.now ∷ l) (marks_of file bs)

-- digests' first bytes are the marks
pub fronts_are : (file : ℕ) (ps : List (List ℕ))
    → with_fronts ps (map (λ (p : List ℕ). sha256 (u64 file ++ p)) ps) ≡ flat_map (marked file) ps
unfolding record_mark mark
fronts_are file [] = refl
fronts_are file (p ∷ ps) = ap (λ (l : List ℕ). marked file p ++ l) (fronts_are file ps)

pub pieces_len : (ns bytes : List ℕ) → length (pieces ns bytes) ≡ length ns
pieces_len [] bytes = refl
pieces_len (n ∷ ns) bytes = omega (arith, pieces_len ns (drop n bytes))
