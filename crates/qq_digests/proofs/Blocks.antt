-- Messages with their padding, in places of one size.
use Rattle.std.proofs.Common.{◌≡◌, ℕ, zero, suc, ◌+◌, ◌-◌, ◌*◌, ◌/◌, ◌%◌, ◌^◌, ◌<◌, ◌≤◌, inl, inr, cond, eqb, List, [], ◌∷◌, ◌++◌, length, get_or, take, drop, replicate, refl, sym, ap, subst, ◌∙◌, arith, length-append, length-drop, append_assoc, take-append-drop}
use Rattle.std.proofs.Math.Nat.{mul-le-mul_right}
use Rattle.std.proofs.lemmas.List.{drop-take, drop_at, get_or-map, length-replicate, length-take-le, take_at}
use Rattle.std.proofs.lemmas.Bool.{cases_eq, cases_lt, cond-true, cond-false, eq-eqb, ne_eqb}
use Rattle.std.proofs.lemmas.Slice.{take-put_mid_below}
use Rattle.std.specs.Borrow.{Bor}
use Rattle.std.specs.Int.{w64, to_be_bytes}
use borrow.Rule.Slice.PartMut.{put_mid}
use Rattle.qq_base.specs.Fronts.{IsFront}
use Rattle.sha2.specs.Sha256.{digest_bytes, hash_after, initial_hash_256, padded_message, padding, sha256}
use Rattle.sha2.proofs.Absorbing256.{hash_after-append, padding-take}
use Rattle.qq_digests.specs.Lanes.{bytes_of, with_prefix}

pub length-padded : (m : List ℕ) → length (padded_message m) ≡ length m + (9 + (119 - length m % 64) % 64)
length-padded m =
    let n : ℕ = length m in
    let zeros : List ℕ = replicate ((119 - n % 64) % 64) 0 in
    let last : List ℕ = to_be_bytes w64 (n * 8 % 2 ^ 64) in
    let eight : length last ≡ 8 = refl in
    let all : length (zeros ++ last) ≡ length zeros + length last = length-append zeros last in
    let some : length zeros ≡ (119 - n % 64) % 64 = length-replicate ((119 - n % 64) % 64) 0 in
    let whole : length (padded_message m) ≡ length m + length (padding n) = length-append m (padding n) in
    omega arith

-- how many blocks that is
pub count_blocks : (m : List ℕ) (n : ℕ) → length m ≡ n
    → length (padded_message m) ≡ 64 * (n / 64 + (n % 64 + 72) / 64)
count_blocks m n e = omega (arith, length-padded m)

-- a message is written with its padding in four parts: a prefix, the rest, a bit with zeros, and its length
pub padded_in_parts : (p m pad last b1 b2 b3 b4 : List ℕ) (count : ℕ)
    → length (padded_message (p ++ m)) ≡ 64 * count
    → pad ≡ take (64 * count - 8 - (length p + length m)) (0x80 ∷ replicate 63 0)
    → last ≡ to_be_bytes w64 ((length p + length m) * 8 % 2 ^ 64)
    → take (0 + length p) b1 ≡ p
    → take (length p + length m) b2 ≡ take (length p) b1 ++ m
    → take (length p + length m + length pad) b3 ≡ take (length p + length m) b2 ++ pad
    → take (64 * count - 8 + length last) b4 ≡ take (64 * count - 8) b3 ++ last
    → IsFront (padded_message (p ++ m)) b4
padded_in_parts p m pad last b1 b2 b3 b4 count whole zeros bits one two three four =
    let w : List ℕ = p ++ m in
    let z : ℕ = (119 - length w % 64) % 64 in
    let end : ℕ = 64 * count - 8 in
    let long : length w ≡ length p + length m = length-append p m in
    let left : end - (length p + length m) ≡ z + 1 = omega (arith, length-padded w) in
    let pad_is : pad ≡ 0x80 ∷ replicate z 0 =
    zeros ∙ ap (λ (k : ℕ). take k (0x80 ∷ replicate 63 0)) left ∙ padding-take 0x80 0 z (omega arith) in
    let last_is : last ≡ to_be_bytes w64 (length w * 8 % 2 ^ 64) =
    bits ∙ ap (λ (k : ℕ). to_be_bytes w64 (k * 8 % 2 ^ 64)) (sym long) in
    let pad_long : length pad ≡ suc z = ap length pad_is ∙ ap suc (length-replicate z 0) in
    let last_long : length last ≡ 8 = ap length bits in
    let here : length p + length m + length pad ≡ end = omega (arith, length-padded w) in
    let front : take (length p) b1 ≡ p = ap (λ (k : ℕ). take k b1) (omega arith) ∙ one in
    let message : take (length p + length m) b2 ≡ w = two ∙ ap (λ (l : List ℕ). l ++ m) front in
    let before : take end b3 ≡ w ++ pad =
    ap (λ (k : ℕ). take k b3) (sym here) ∙ three ∙ ap (λ (l : List ℕ). l ++ pad) message in
    let all : take (end + length last) b4 ≡ padded_message w =
    four ∙ ap (λ (l : List ℕ). l ++ last) before ∙ append_assoc w pad last ∙ (λ i. w ++ (pad_is i ++ last_is i)) in
    record {
      rest = drop (end + length last) b4;
      is =
          sym (take-append-drop (end + length last) b4)
          ∙ ap (λ (l : List ℕ). l ++ drop (end + length last) b4) all;
    }

-- what follows a message with its padding is past its last block
pub sha256_of_front : (count : ℕ) (m bytes : List ℕ) → length (padded_message m) ≡ 64 * count
    → IsFront (padded_message m) bytes → digest_bytes (hash_after initial_hash_256 bytes count) 8 ≡ sha256 m
unfolding sha256
sha256_of_front count m bytes long front =
    let p : List ℕ = padded_message m in
    let blocks : length p / 64 ≡ count = omega arith in
    ap (λ (h : List ℕ). digest_bytes h 8)
    (ap (λ (l : List ℕ). hash_after initial_hash_256 l count) front.is
    ∙ hash_after-append initial_hash_256 p front.rest count (omega arith)
    ∙ ap (hash_after initial_hash_256 p) (sym blocks))

-- what holds of each number below one, and of that one
pub below_next : (P : ℕ → Type 0) (j : ℕ) → ((k : ℕ) → k < j → P k) → P j → (k : ℕ) → k < j + 1 → P k
below_next P j before here k below = elim (cases_lt k j) [
  | inl less ↦ before k less
  | inr other ↦
      let same : j ≡ k = omega arith in
      subst P same here
]

-- a place of one size has that size
pub place_long : (size j : ℕ) (bytes : List ℕ) → j < 8 → 8 * size ≤ length bytes
    → length (take (j * size + size - j * size) (drop (j * size) bytes)) ≡ size
place_long size j bytes less fits =
    let within : (j + 1) * size ≤ 8 * size = mul-le-mul_right size (omega arith) in
    let count : j * size + size - j * size ≡ size = omega arith in
    ap (λ (k : ℕ). length (take k (drop (j * size) bytes))) count
    ∙ length-take-le size (drop (j * size) bytes) (omega (arith, length-drop (j * size) bytes))

-- what is written at a place of one size leaves those before it
pub place_before : (size j k n : ℕ) (bytes here : List ℕ) → k < j → j * size ≤ length bytes
    → bytes_of size k (put_mid (j * size) n bytes here) ≡ bytes_of size k bytes
place_before size j k n bytes here less fits =
    let within : (k + 1) * size ≤ j * size = mul-le-mul_right size (omega arith) in
    let end : k * size + size ≤ j * size = omega arith in
    let all : List ℕ = put_mid (j * size) n bytes here in
    sym (drop-take (k * size) size all)
    ∙ ap (drop (k * size)) (take-put_mid_below (j * size) n bytes here (k * size + size) end fits)
    ∙ drop-take (k * size) size bytes

-- and is what stands there
pub place_here : (size j n : ℕ) (bytes here : List ℕ) → j * size ≤ length bytes → length here ≡ size
    → bytes_of size j (put_mid (j * size) n bytes here) ≡ here
place_here size j n bytes here fits long =
    let front : length (take (j * size) bytes) ≡ j * size = length-take-le (j * size) bytes fits in
    ap (take size) (drop_at (take (j * size) bytes) _ (j * size) front) ∙ take_at here _ size long

-- the first items of a list, read one by one
pub same_front : {A : Type 0} (e : A) (n : ℕ) (xs ys : List A) → length ys ≡ n → n ≤ length xs
    → ((j : ℕ) → j < n → get_or xs j e ≡ get_or ys j e) → take n xs ≡ ys
same_front e zero xs [] long fits same = refl
same_front e zero xs (y ∷ ys) long fits same = absurd (omega arith)
same_front e (suc n) xs [] long fits same = absurd (omega arith)
same_front e (suc n) [] ys long fits same = absurd (omega arith)
same_front e (suc n) (x ∷ xs) (y ∷ ys) long fits same =
    let tails = same_front e n xs ys (omega arith) (omega arith) (λ j lt. same (suc j) (omega arith)) in
    (λ i. same 0 (omega arith) i ∷ tails i)

-- what is noted where a message ends with block n + 1, and else stays
pub ended_next : (k n : ℕ) (f : ℕ → List ℕ) (new now old : List ℕ) → new ≡ cond (eqb k (n + 1)) now old
    → now ≡ f (n + 1) → (k ≤ n → old ≡ f k) → k ≤ n + 1 → new ≡ f k
ended_next k n f new now old noted done before within = elim (cases_eq k (n + 1)) [
  | inl here ↦ noted ∙ cond-true (eqb k (n + 1)) now old (eq-eqb k (n + 1) here) ∙ done ∙ ap f (sym here)
  | inr other ↦
      let earlier : k ≤ n = omega arith in
      noted ∙ cond-false (eqb k (n + 1)) now old (ne_eqb k (n + 1) other) ∙ before earlier
]

-- message i, with the prefix before it
pub prefixed : (prefix : List ℕ) (messages : List (Bor (List ℕ))) (i : ℕ) → i < length messages
    → get_or (with_prefix prefix messages) i [] ≡ prefix ++ (get_or messages i (record { ref_ptr = (0, 0); now = [] })).now
prefixed prefix messages i within =
    get_or-map (λ (m : Bor (List ℕ)). prefix ++ m.now) messages i (record { ref_ptr = (0, 0); now = [] }) [] within
