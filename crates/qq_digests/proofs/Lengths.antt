-- Pieces of a run of bytes, and items in groups of eight.
use Rattle.std.proofs.Common.{◌≡◌, ℕ, ◌+◌, ◌-◌, ◌<◌, ◌≤◌, inl, inr, get_or, append_assoc, List, [], ◌∷◌, ◌++◌, length, map, take, drop, take-append-drop, refl, sym, ap, ◌∙◌, arith}
use Rattle.std.specs.List.{sum}
use Rattle.std.proofs.lemmas.Bool.{cases_lt}
use Rattle.std.proofs.lemmas.List.{at_drop_more, drop-drop, drop_all, map-append}
use Rattle.std.proofs.lemmas.List.Sums.{sum_by-cons}
use Rattle.std.specs.Borrow.{Bor}
use Rattle.sha2.specs.Sha256.{sha256}
use Rattle.qq_digests.specs.Lanes.{with_prefix}
use Rattle.qq_digests.specs.Pieces.{pieces}

-- one piece more
pub pieces_more : (found : List (List ℕ)) (ns rest : List ℕ) (i : ℕ) → i < length ns
    → found ++ pieces (drop i ns) rest
    ≡ (found ++ take (get_or ns i 0) rest ∷ []) ++ pieces (drop (i + 1) ns) (drop (get_or ns i 0) rest)
pieces_more found ns rest i within =
    at_drop_more (λ (ms : List ℕ). found ++ pieces ms rest) ns i 0 within
    ∙ sym (append_assoc found (take (get_or ns i 0) rest ∷ []) (pieces (drop (i + 1) ns) (drop (get_or ns i 0) rest)))

-- one length more of a sum
pub sum_more : (ns : List ℕ) (i : ℕ) → i < length ns → sum (drop i ns) ≡ get_or ns i 0 + sum (drop (i + 1) ns)
sum_more ns i within =
    at_drop_more sum ns i 0 within ∙ sum_by-cons (λ (n : ℕ). n) (get_or ns i 0) (drop (i + 1) ns)

-- the pieces of some lengths, and then those of the others
pub pieces-append : (ms ns bytes : List ℕ)
    → pieces (ms ++ ns) bytes ≡ pieces ms bytes ++ pieces ns (drop (sum ms) bytes)
pieces-append [] ns bytes = refl
pieces-append (m ∷ ms) ns bytes =
    let all : drop (sum ms) (drop m bytes) ≡ drop (sum (m ∷ ms)) bytes =
    drop-drop (sum ms) m bytes ∙ ap (λ (k : ℕ). drop k bytes) (sym (sum_by-cons (λ (n : ℕ). n) m ms)) in
    ap (λ (l : List (List ℕ)). take m bytes ∷ l)
    (pieces-append ms ns (drop m bytes) ∙ ap (λ (l : List ℕ). pieces ms (drop m bytes) ++ pieces ns l) all)

-- items from one on: a group of eight, or what is left, and those after it
pub group_and_rest : {A : Type 0} (xs : List A) (at end : ℕ) → at ≤ end
    → (at + 8 ≤ length xs → end ≡ at + 8) → (length xs ≤ at + 8 → end ≡ length xs)
    → drop at xs ≡ take (end - at) (drop at xs) ++ drop (at + 8) xs
group_and_rest xs at end le whole last =
    let until : drop (at + (end - at)) xs ≡ drop (at + 8) xs =
    elim (cases_lt (length xs) (at + 8)) [
      | inl short ↦
          let all : end ≡ length xs = last (omega arith) in
          drop_all (at + (end - at)) xs (omega arith) ∙ sym (drop_all (at + 8) xs (omega arith))
      | inr long ↦
          let eight : end ≡ at + 8 = whole (omega arith) in
          ap (λ (k : ℕ). drop k xs) (omega arith)
    ] in
    sym (take-append-drop (end - at) (drop at xs))
    ∙ ap (λ l. take (end - at) (drop at xs) ++ l) (drop-drop (end - at) at xs ∙ until)

-- a group more is added
pub group_added : (out old more all group rest : List (List ℕ)) → out ≡ old ++ group → more ≡ group ++ rest
    → old ++ more ≡ all → out ++ rest ≡ all
group_added out old more all group rest added parts before =
    ap (λ (l : List (List ℕ)). l ++ rest) added ∙ append_assoc old group rest
    ∙ ap (λ (l : List (List ℕ)). old ++ l) (sym parts) ∙ before

-- the digests of two lists of messages
pub digests-append : (prefix : List ℕ) (xs ys : List (Bor (List ℕ)))
    → map sha256 (with_prefix prefix (xs ++ ys))
    ≡ map sha256 (with_prefix prefix xs) ++ map sha256 (with_prefix prefix ys)
digests-append prefix xs ys =
    ap (map sha256) (map-append (λ (m : Bor (List ℕ)). prefix ++ m.now) xs ys)
    ∙ map-append sha256 (with_prefix prefix xs) (with_prefix prefix ys)

-- the digests of messages are those of their bytes
pub digests_of : (prefix : List ℕ) (xs : List (Bor (List ℕ)))
    → map sha256 (with_prefix prefix xs)
    ≡ map (λ piece. sha256 (prefix ++ piece)) (map (λ (m : Bor (List ℕ)). m.now) xs)
digests_of prefix [] = refl
digests_of prefix (x ∷ xs) = ap (λ (l : List (List ℕ)). sha256 (prefix ++ x.now) ∷ l) (digests_of prefix xs)
