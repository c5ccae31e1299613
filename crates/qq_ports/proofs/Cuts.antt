-- Where the first line feed stands, and what the last byte of a line comes to.
use Rattle.std.proofs.Common.{◌≡◌, ℕ, zero, suc, ◌+◌, ◌<◌, ◌≤◌, ◌==◌, Bool, true, cond, nat_lt, List, [], ◌∷◌, ◌++◌, Some, None, length, take, drop, get_or, unwrap_or, refl, ap, subst, inl, inr, add-one, arith}
use Rattle.std.specs.List.{position}
use Rattle.std.proofs.lemmas.Bool.{cases_Bool}
use Rattle.std.proofs.lemmas.Bool.Decides.{nat_tests}
use Rattle.std.proofs.lemmas.List.Recursion.{is_position_or_len}
use Rattle.qq_ports.specs.Lines.{HasNoFeed, without_return}

abbrev is_feed : ℕ → Bool
is_feed byte = byte == 10

-- how many bytes stand before the first line feed
abbrev pub prefix_len : List ℕ → ℕ
prefix_len [] = 0
prefix_len (b ∷ bs) = cond (b == 10) 0 (suc (prefix_len bs))

pub prefix-within : (bytes : List ℕ) → prefix_len bytes ≤ length bytes
prefix-within [] = omega arith
prefix-within (b ∷ bs) =
    elim (cases_Bool (b == 10))
    [ inl feed ↦ rw feed (omega arith) | inr other ↦ rw other (omega (arith, prefix-within bs)) ]

pub prefix-clean : (bytes : List ℕ) → HasNoFeed (take (prefix_len bytes) bytes)
prefix-clean [] = tt
prefix-clean (b ∷ bs) =
    elim (cases_Bool (b == 10)) [ inl feed ↦ rw feed tt | inr other ↦ rw other (other, prefix-clean bs) ]

-- the bytes about the first line feed, where its place is below the length
About : List ℕ → ℕ → Type 0
About bytes n = n < length bytes → bytes ≡ take n bytes ++ 10 ∷ drop (suc n) bytes

feed-is : (b : ℕ) → (b == 10) ≡ true → b ≡ 10
feed-is b feed = grind (arith, nat_tests)

About-prefix : (bytes : List ℕ) → About bytes (prefix_len bytes)
unfolding About
About-prefix [] = λ lt. absurd (omega arith)
About-prefix (b ∷ bs) = elim (cases_Bool (b == 10)) [
  | inl feed ↦ rw feed (λ lt. ap (λ c. c ∷ bs) (feed-is b feed))
  | inr other ↦ rw other (λ lt. ap (λ l. b ∷ l) (About-prefix bs (omega arith)))
]

pub prefix-feed : (bytes : List ℕ) → prefix_len bytes < length bytes
    → bytes ≡ take (prefix_len bytes) bytes ++ 10 ∷ drop (prefix_len bytes + 1) bytes
unfolding About
prefix-feed bytes lt = rw add-one (About-prefix bytes lt)

-- the place that a search for a line feed gives
step-of : (b : ℕ) (bs : List ℕ) → prefix_len (b ∷ bs) ≡ cond (is_feed b) 0 (1 + prefix_len bs)
step-of b bs = ap (λ n. cond (b == 10) 0 n) (omega arith)

by_place : (n len : ℕ) → n ≤ len → unwrap_or (cond (nat_lt n len) (Some n) None) len ≡ n
by_place n len le =
    elim (cases_Bool (nat_lt n len)) [ inl below ↦ rw below refl | inr end ↦ rw end (grind (arith, nat_tests)) ]

pub place-prefix : (bytes : List ℕ) → unwrap_or (position is_feed bytes) (length bytes) ≡ prefix_len bytes
place-prefix bytes =
    subst (λ n. unwrap_or (cond (nat_lt n (length bytes)) (Some n) None) (length bytes) ≡ prefix_len bytes)
    (is_position_or_len prefix_len is_feed refl step-of bytes)
    (by_place (prefix_len bytes) (length bytes) (prefix-within bytes))

-- ---- the last byte of a line

pub without-return : (raw : List ℕ) (n : ℕ) → length raw ≡ suc n → get_or raw n 0 ≡ 13
    → take n raw ≡ without_return raw
without-return [] n len is = absurd (omega arith)
without-return (b ∷ []) zero len is = rw is refl
without-return (b ∷ []) (suc n) len is = absurd (omega arith)
without-return (b ∷ c ∷ bs) zero len is = absurd (omega arith)
without-return (b ∷ c ∷ bs) (suc n) len is = ap (λ l. b ∷ l) (without-return (c ∷ bs) n (omega arith) is)

pub without-other : (raw : List ℕ) (n : ℕ) → length raw ≡ suc n → (get_or raw n 0 ≡ 13 → ⊥) → raw ≡ without_return raw
without-other [] n len other = refl
without-other (b ∷ []) zero len other =
    elim (cases_Bool (b == 13)) [ inl return ↦ absurd (other (grind (arith, nat_tests))) | inr kept ↦ rw kept refl ]
without-other (b ∷ []) (suc n) len other = absurd (omega arith)
without-other (b ∷ c ∷ bs) zero len other = absurd (omega arith)
without-other (b ∷ c ∷ bs) (suc n) len other = ap (λ l. b ∷ l) (without-other (c ∷ bs) n (omega arith) other)
