-- Words from bytes, and bytes within bytes.
use Rattle.std.proofs.Common.{◌≡◌, ℕ, ◌+◌, ◌-◌, ◌*◌, ◌^◌, ◌<◌, ◌≤◌, List, [], ◌∷◌, ◌++◌, length, get_or, take, drop, slice_index, slice_index_or, sym, ap, ◌∙◌, arith, add-zero, w8, w32}
use Rattle.std.proofs.Math.ListN.{get_or-map}
use Rattle.std.proofs.lemmas.List.{drop-take, drop-drop, take-take}
use Rattle.std.proofs.lemmas.Simd.{Each1-get_or, get_or-chunk, length-chunk}
use Rattle.std.specs.Int.{from_be_bytes}
use Rattle.std.specs.Simd.Lanes.{Each1, chunk, digits_l, number_l, pick_l}
use mir.Val.{Fits}
use Rattle.sha2.specs.Sha256.{word_at}
use Rattle.qq_digests.specs.Lanes.{words_of}
use Rattle.qq_digests.proofs.Four.{four_are, four_items}

-- word i of message j
pub word_of : (vectors : List (List ℕ)) (j i : ℕ)
    → slice_index (words_of j vectors) i ≡ slice_index (slice_index_or vectors i []) j
word_of vectors j i = get_or-map (λ (v : List ℕ). slice_index v j) vectors i []

-- four bytes, turned round and read as a vector of one word
pub turned : (v : List ℕ) → length v ≡ 4 → Each1 (Fits w8) v
    → get_or (digits_l (2 ^ 32) 1 (number_l 256 (pick_l 0 (v ++ v) (3 ∷ 2 ∷ 1 ∷ 0 ∷ [])))) 0 0 ≡ from_be_bytes w32 v
turned = four_items (λ v. Each1 (Fits w8) v
    → get_or (digits_l (2 ^ 32) 1 (number_l 256 (pick_l 0 (v ++ v) (3 ∷ 2 ∷ 1 ∷ 0 ∷ [])))) 0 0 ≡ from_be_bytes w32 v)
    (λ a b c d f.
    let fa : a < 256 = f.0.fits in
    let fb : b < 256 = f.1.0.fits in
    let fc : c < 256 = f.1.1.0.fits in
    let fd : d < 256 = f.1.1.1.0.fits in
    omega arith)

-- the four bytes of a word
pub word_bytes : (bytes : List ℕ) (at : ℕ) → at + 4 ≤ length bytes
    → from_be_bytes w32 (chunk at 4 bytes) ≡ word_at bytes at
word_bytes bytes at fits =
    let v : List ℕ = chunk at 4 bytes in
    let e0 : get_or v 0 0 ≡ slice_index bytes at = get_or-chunk at 4 bytes 0 0 (omega arith) ∙ ap (slice_index bytes) (add-zero at) in
    let e1 : get_or v 1 0 ≡ slice_index bytes (at + 1) = get_or-chunk at 4 bytes 1 0 (omega arith) in
    let e2 : get_or v 2 0 ≡ slice_index bytes (at + 2) = get_or-chunk at 4 bytes 2 0 (omega arith) in
    let e3 : get_or v 3 0 ≡ slice_index bytes (at + 3) = get_or-chunk at 4 bytes 3 0 (omega arith) in
    ap (from_be_bytes w32) (four_are 0 v (length-chunk at 4 bytes fits) ∙ (λ i. e0 i ∷ e1 i ∷ e2 i ∷ e3 i ∷ []))

-- a word of a block is one of the bytes that the block stands in
pub block_word : (bytes : List ℕ) (place k at : ℕ) → k + 4 ≤ 64 → at ≡ place + k
    → word_at bytes at ≡ word_at (take 64 (drop place bytes)) k
block_word bytes place k at fits e =
    let block : List ℕ = take 64 (drop place bytes) in
    let e0 : slice_index bytes at ≡ slice_index block k = ap (slice_index bytes) e ∙ sym (get_or-chunk place 64 bytes k 0 (omega arith)) in
    let e1 : slice_index bytes (at + 1) ≡ slice_index block (k + 1) = ap (slice_index bytes) (omega arith) ∙ sym (get_or-chunk place 64 bytes (k + 1) 0 (omega arith)) in
    let e2 : slice_index bytes (at + 2) ≡ slice_index block (k + 2) = ap (slice_index bytes) (omega arith) ∙ sym (get_or-chunk place 64 bytes (k + 2) 0 (omega arith)) in
    let e3 : slice_index bytes (at + 3) ≡ slice_index block (k + 3) = ap (slice_index bytes) (omega arith) ∙ sym (get_or-chunk place 64 bytes (k + 3) 0 (omega arith)) in
    ap (from_be_bytes w32) (λ i. e0 i ∷ e1 i ∷ e2 i ∷ e3 i ∷ [])

-- a block within the bytes of one message
pub block_within : (bytes : List ℕ) (place size n : ℕ) → 64 * n + 64 ≤ size
    → take 64 (drop (place + 64 * n) bytes) ≡ take 64 (drop (n * 64) (take size (drop place bytes)))
block_within bytes place size n fits =
    let rest : ℕ = size - n * 64 in
    let split : size ≡ n * 64 + rest = omega arith in
    sym (ap (λ (k : ℕ). take 64 (drop (n * 64) (take k (drop place bytes)))) split
    ∙ ap (take 64) (drop-take (n * 64) rest (drop place bytes))
    ∙ take-take 64 rest (drop (n * 64) (drop place bytes)) (omega arith)
    ∙ ap (take 64) (drop-drop (n * 64) place bytes ∙ ap (λ (k : ℕ). drop k bytes) (omega arith)))

-- a word has 32 bits
pub word_fits : (v : List ℕ) (j : ℕ) → length v ≡ 8 → Each1 (Fits w32) v → j < 8 → slice_index v j < 2 ^ 32
word_fits v j long fits lt = (Each1-get_or (Fits w32) v j 0 (omega arith) fits).fits
