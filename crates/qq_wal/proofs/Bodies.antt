-- The bytes of a batch's records.
use Rattle.std.proofs.Common.{◌≡◌, ℕ, ◌+◌, ◌*◌, ◌<◌, ◌≤◌, List, [], ◌∷◌, ◌++◌, length, take, get_or, slice_index, refl, sym, ap, subst, ◌∙◌, arith, inl, inr}
use Rattle.std.specs.List.{AllByRecursion, flat_map}
use Rattle.std.proofs.lemmas.Bool.{cases_lt}
use Rattle.std.proofs.lemmas.List.{append-nil, get_or_append_left, get_or-append_right, get_or_past, length-take-le, take_more}
use Rattle.std.proofs.lemmas.Grind.{flat_map-append}
use Rattle.qq_base.specs.Fields.{AreBytes}
use Rattle.qq_wal_record.specs.declared.record.LogRecord.{LogRecord}
use Rattle.qq_wal_record.specs.Encoding.{body, record_encoding}
use Rattle.qq_wal_record.proofs.Marks.{encoded_len}
use Rattle.qq_wal_chain.specs.Wal.{RecordFits}
use Rattle.qq_wal.specs.Batch.{FitsBatch, encodings}

AreBytes-first : (a b : List ℕ) → AreBytes (a ++ b) → AreBytes a
AreBytes-first a b all i = elim (cases_lt i (length a)) [
  | inl lt ↦ subst (λ (n : ℕ). n < 256) (get_or_append_left a b 0 i lt) (all i)
  | inr ge ↦ subst (λ (n : ℕ). n < 256) (sym (get_or_past a i 0 ge)) (omega arith)
]

AreBytes-second : (a b : List ℕ) → AreBytes (a ++ b) → AreBytes b
AreBytes-second a b all i =
    let same : slice_index (a ++ b) (length a + i) ≡ slice_index b i =
    get_or-append_right a b (length a) (length a + i) 0 refl (omega arith) ∙ ap (slice_index b) (omega arith) in
    subst (λ (n : ℕ). n < 256) same (all (length a + i))

-- where all records' bytes are bytes, each one's are
pub each_fits : (n : ℕ) (rs : List LogRecord) → AreBytes (encodings n rs) → AllByRecursion FitsBatch rs
    → AllByRecursion (RecordFits n) rs
each_fits n [] all fit = tt
each_fits n (r ∷ rs) all fit = (
  (fit.0.0, AreBytes-first (record_encoding n r) (encodings n rs) all),
  each_fits n rs (AreBytes-second (record_encoding n r) (encodings n rs) all) fit.1,
)

-- marks are counted
pub taken_len : (file count : ℕ) (ws : List LogRecord) (bytes : List ℕ) → count ≤ length ws
    → bytes ≡ flat_map body (take count ws) → length (encodings file (take count ws)) ≡ length bytes + 8 * count
taken_len file count ws bytes within e =
    omega (arith, encoded_len file (take count ws), ap length e, length-take-le count ws within)

-- one body more
pub more_bodies : (ws : List LogRecord) (count : ℕ) (r : LogRecord) (bytes next : List ℕ) → count < length ws
    → r ≡ get_or ws count r → bytes ≡ flat_map body (take count ws) → next ≡ bytes ++ body r
    → next ≡ flat_map body (take (count + 1) ws)
more_bodies ws count r bytes next within er e en =
    let before : List ℕ = flat_map body (take count ws) in
    let one : flat_map body (take (count + 1) ws) ≡ before ++ body r =
    ap (flat_map body) (take_more ws count r within ∙ ap (λ (x : LogRecord). take count ws ++ x ∷ []) (sym er))
    ∙ flat_map-append body (take count ws) (r ∷ [])
    ∙ ap (λ (l : List ℕ). before ++ l) (append-nil (body r)) in
    en ∙ ap (λ (l : List ℕ). l ++ body r) e ∙ sym one
