-- Rotations of a word of 32 bits as shifts under xor, those to the right out of one another and those to the
-- left too.
use Rattle.std.proofs.Common.{◌≡◌, ℕ, ◌+◌, ◌*◌, ◌/◌, ◌%◌, ◌^◌, ◌<◌, bit_or, bit_xor, sym, ap, ◌∙◌, add-zero, add_comm, pow_pos, pow-add, shr-shr}
use Rattle.std.proofs.Math.Nat.{mul_assoc}
use Rattle.std.proofs.lemmas.Nat.{mod-pow-add, mod_low, mul-mod_first, or_comm, or_shifted, shl-shr, shr_below, xor_block, xor_comm, xor_mod, xor_shr}
use Rattle.std.specs.Int.Bits.{xor_assoc, xor_shifted}

-- a shift to the left, with what leaves the word dropped
abbrev pub shl : ℕ → ℕ → ℕ
shl x k = x * 2 ^ k % 2 ^ 32

-- a rotation's two parts have no bit in common
pub rotated : (x k j : ℕ) → k + j ≡ 32 → x < 2 ^ 32 → bit_or (x / 2 ^ k) (shl x j) ≡ bit_xor (x / 2 ^ k) (shl x j)
rotated x k j whole fits =
    let clear : x * 2 ^ j % 2 ^ j ≡ 0 = ap (λ (n : ℕ). n % 2 ^ j) (sym (add-zero _)) ∙ mod_low x j 0 (pow_pos j) in
    let low : shl x j ≡ x % 2 ^ k * 2 ^ j =
    ap (λ (i : ℕ). x * 2 ^ j % 2 ^ i) (sym whole) ∙ mod-pow-add (x * 2 ^ j) k j ∙ rw (shl-shr x j, clear) (add-zero _) in
    let high : x / 2 ^ k < 2 ^ j = shr_below x j k (rw (add_comm j k, whole) fits) in
    rw low (or_comm (x / 2 ^ k) (x % 2 ^ k * 2 ^ j) ∙ or_shifted (x % 2 ^ k) j (x / 2 ^ k) high
    ∙ sym (xor_shifted (x % 2 ^ k) j (x / 2 ^ k) high) ∙ xor_comm (x % 2 ^ k * 2 ^ j) (x / 2 ^ k))

shl-xor : (a b k : ℕ) → shl (bit_xor a b) k ≡ bit_xor (shl a k) (shl b k)
shl-xor a b k =
    let scaled : bit_xor (a * 2 ^ k) (b * 2 ^ k) ≡ bit_xor a b * 2 ^ k =
    rw (add-zero, add-zero, add-zero) at (xor_block k a b 0 0 (pow_pos k) (pow_pos k)) in
    ap (λ (n : ℕ). n % 2 ^ 32) (sym scaled) ∙ xor_mod (a * 2 ^ k) (b * 2 ^ k) 32

shl-shl : (x j k : ℕ) → shl (shl x j) k ≡ shl x (j + k)
shl-shl x j k =
    mul-mod_first (x * 2 ^ j) (2 ^ k) (2 ^ 32)
    ∙ ap (λ (n : ℕ). n % 2 ^ 32) (mul_assoc x (2 ^ j) (2 ^ k) ∙ ap (λ (n : ℕ). x * n) (sym (pow-add 2 j k)))

pub right_two : (x a b : ℕ) → bit_xor (x / 2 ^ a) x / 2 ^ b ≡ bit_xor (x / 2 ^ (a + b)) (x / 2 ^ b)
right_two x a b = xor_shr (x / 2 ^ a) x b ∙ ap (λ (n : ℕ). bit_xor n (x / 2 ^ b)) (shr-shr x a b)

pub right_three : (x a b c : ℕ) → bit_xor (bit_xor (x / 2 ^ a) x / 2 ^ b) x / 2 ^ c
    ≡ bit_xor (bit_xor (x / 2 ^ (a + b + c)) (x / 2 ^ (b + c))) (x / 2 ^ c)
right_three x a b c =
    xor_shr (bit_xor (x / 2 ^ a) x / 2 ^ b) x c
    ∙ ap (λ (n : ℕ). bit_xor n (x / 2 ^ c))
    (ap (λ (n : ℕ). n / 2 ^ c) (right_two x a b) ∙ xor_shr (x / 2 ^ (a + b)) (x / 2 ^ b) c
    ∙ (λ i. bit_xor (shr-shr x (a + b) c i) (shr-shr x b c i)))

pub left_two : (x a b : ℕ) → shl (bit_xor (shl x a) x) b ≡ bit_xor (shl x (a + b)) (shl x b)
left_two x a b = shl-xor (shl x a) x b ∙ ap (λ (n : ℕ). bit_xor n (shl x b)) (shl-shl x a b)

pub left_three : (x a b c : ℕ) → shl (bit_xor (shl (bit_xor (shl x a) x) b) x) c
    ≡ bit_xor (bit_xor (shl x (a + b + c)) (shl x (b + c))) (shl x c)
left_three x a b c =
    shl-xor (shl (bit_xor (shl x a) x) b) x c
    ∙ ap (λ (n : ℕ). bit_xor n (shl x c))
    (ap (λ (n : ℕ). shl n c) (left_two x a b) ∙ shl-xor (shl x (a + b)) (shl x b) c
    ∙ (λ i. bit_xor (shl-shl x (a + b) c i) (shl-shl x b c i)))

xor_swap : (a b c d : ℕ) → bit_xor (bit_xor a b) (bit_xor c d) ≡ bit_xor (bit_xor a c) (bit_xor b d)
xor_swap a b c d =
    xor_assoc a b (bit_xor c d)
    ∙ ap (bit_xor a) (sym (xor_assoc b c d) ∙ ap (λ (n : ℕ). bit_xor n d) (xor_comm b c) ∙ xor_assoc c b d)
    ∙ sym (xor_assoc a c (bit_xor b d))

xor_flip : (a b c : ℕ) → bit_xor (bit_xor a b) c ≡ bit_xor (bit_xor c b) a
xor_flip a b c = xor_assoc a b c ∙ xor_comm a (bit_xor b c) ∙ ap (λ (n : ℕ). bit_xor n a) (xor_comm b c)

-- three shifts to the right and three to the left, in pairs
xor_pairs : (a b c d e f : ℕ) → bit_xor (bit_xor (bit_xor a b) c) (bit_xor (bit_xor d e) f)
    ≡ bit_xor (bit_xor (bit_xor c d) (bit_xor b e)) (bit_xor a f)
xor_pairs a b c d e f =
    ap (λ (n : ℕ). bit_xor n (bit_xor (bit_xor d e) f)) (xor_flip a b c)
    ∙ xor_swap (bit_xor c b) a (bit_xor d e) f
    ∙ ap (λ (n : ℕ). bit_xor n (bit_xor a f)) (xor_swap c b d e)

-- three to the right and two to the left
xor_pairs_and_one : (a b c d e : ℕ) → bit_xor (bit_xor (bit_xor a b) c) (bit_xor d e)
    ≡ bit_xor (bit_xor (bit_xor b d) (bit_xor a e)) c
xor_pairs_and_one a b c d e =
    xor_assoc (bit_xor a b) c (bit_xor d e)
    ∙ ap (bit_xor (bit_xor a b)) (xor_comm c (bit_xor d e))
    ∙ sym (xor_assoc (bit_xor a b) (bit_xor d e) c)
    ∙ ap (λ (n : ℕ). bit_xor n c)
    (ap (λ (n : ℕ). bit_xor n (bit_xor d e)) (xor_comm a b) ∙ xor_swap b a d e)

-- three rotations under xor, by a shifts right and p left, b and q, c and r
pub rotated_three : (x a b c p q r right left : ℕ) → x < 2 ^ 32 → a + p ≡ 32 → b + q ≡ 32 → c + r ≡ 32
    → right ≡ bit_xor (bit_xor (x / 2 ^ c) (x / 2 ^ b)) (x / 2 ^ a)
    → left ≡ bit_xor (bit_xor (shl x p) (shl x q)) (shl x r)
    → bit_xor right left ≡ bit_xor (bit_xor (bit_or (x / 2 ^ a) (shl x p)) (bit_or (x / 2 ^ b) (shl x q))) (bit_or (x / 2 ^ c) (shl x r))
rotated_three x a b c p q r right left fits ap' bq cr er el =
    rw (er, el, rotated x a p ap' fits, rotated x b q bq fits, rotated x c r cr fits)
    (xor_pairs (x / 2 ^ c) (x / 2 ^ b) (x / 2 ^ a) (shl x p) (shl x q) (shl x r))

-- two rotations and a shift to the right by c
pub rotated_two : (x a b c p q right left : ℕ) → x < 2 ^ 32 → a + p ≡ 32 → b + q ≡ 32
    → right ≡ bit_xor (bit_xor (x / 2 ^ b) (x / 2 ^ a)) (x / 2 ^ c)
    → left ≡ bit_xor (shl x p) (shl x q)
    → bit_xor right left ≡ bit_xor (bit_xor (bit_or (x / 2 ^ a) (shl x p)) (bit_or (x / 2 ^ b) (shl x q))) (x / 2 ^ c)
rotated_two x a b c p q right left fits ap' bq er el =
    rw (er, el, rotated x a p ap' fits, rotated x b q bq fits)
    (xor_pairs_and_one (x / 2 ^ b) (x / 2 ^ a) (x / 2 ^ c) (shl x p) (shl x q))
