-- A number that was put is taken again, and what is taken has that number's bytes at its front.
use Rattle.std.proofs.Common.{◌≡◌, ℕ, ◌^◌, ◌<◌, ◌≤◌, Bool, true, false, cond, ltb, List, [], ◌∷◌, ◌++◌, length, take, drop, Some, None, refl, sym, ap, subst, ◌∙◌, arith, inl, inr}
use Rattle.std.specs.Int.{Width, w8, w16, w32, w64, byte_len, from_be_bytes, to_be_bytes}
use Rattle.std.proofs.lemmas.Bool.{cases_lt, ltb-false, le-ltb}
use Rattle.std.proofs.lemmas.List.{take_at, take-append-drop, length-append, length-take, get_or-take, get_or_past}
use Rattle.std.proofs.lemmas.Nat.{be_bytes_2, be_bytes_4, be_bytes_8, from_be_bytes-to_be_bytes_2, from_be_bytes-to_be_bytes_4, from_be_bytes-to_be_bytes_8}
use Rattle.std.proofs.Math.Nat.{mod-eq_of_lt}
use Rattle.qq_base.specs.Fields.{AreBytes, number_at, ReadsBack}

pub AreBytes-take : (n : ℕ) (bytes : List ℕ) → AreBytes bytes → AreBytes (take n bytes)
AreBytes-take n bytes h i =
    elim (cases_lt i n) [
      | inl lt ↦ rw (get_or-take n bytes i 0 lt) (h i)
      | inr le ↦ rw (get_or_past (take n bytes) i 0 (omega (arith, length-take n bytes))) (omega arith)
    ]

-- an option that a test leaves
chosen : {A : Type 0} (b : Bool) (x y : A) → cond b None (Some x) ≡ Some y → (b ≡ false) × (x ≡ y)
chosen true x y e = absurd cc
chosen false x y e = (refl, cc)

-- what is known of a width: its numbers and its bytes stand for each other
record IsWide (w : Width) (limit : ℕ) : Type 0 where
  len : (n : ℕ) → length (to_be_bytes w n) ≡ byte_len w
  back : (bytes : List ℕ) → length bytes ≡ byte_len w → AreBytes bytes → to_be_bytes w (from_be_bytes w bytes) ≡ bytes
  again : (n : ℕ) → n < limit → from_be_bytes w (to_be_bytes w n) ≡ n
  below : (bytes : List ℕ) → AreBytes bytes → from_be_bytes w bytes < limit

reads_back : (w : Width) (limit : ℕ) → IsWide w limit → ReadsBack w limit
reads_back w limit wide = record { again = again; alone = alone }
  where
    again : (n : ℕ) (rest : List ℕ) → n < limit → number_at w (to_be_bytes w n ++ rest) ≡ Some (n, byte_len w)
    again n rest lt =
        let len : length (to_be_bytes w n) ≡ byte_len w = wide.len n in
        let long : byte_len w ≤ length (to_be_bytes w n ++ rest) = omega
        (arith, length-append (to_be_bytes w n) rest) in
        let front : take (byte_len w) (to_be_bytes w n ++ rest) ≡ to_be_bytes w n = take_at (to_be_bytes w n) rest
        (byte_len w) len in
        rw (le-ltb _ _ long) (ap (λ (m : ℕ). Some (m, byte_len w)) (ap (from_be_bytes w) front ∙ wide.again n lt))

    alone : (bytes : List ℕ) (n taken : ℕ) → AreBytes bytes → number_at w bytes ≡ Some (n, taken)
        → (bytes ≡ to_be_bytes w n ++ drop taken bytes) × (n < limit) × (taken ≡ byte_len w)
    alone bytes n taken fits e =
        let both = chosen (ltb (length bytes) (byte_len w)) (from_be_bytes w (take (byte_len w) bytes), byte_len w)
        (n, taken) e in
        let long : byte_len w ≤ length bytes = ltb-false _ _ both.0 in
        let value : from_be_bytes w (take (byte_len w) bytes) ≡ n = ap (λ (p : ℕ × ℕ). p.0) both.1 in
        let count : byte_len w ≡ taken = ap (λ (p : ℕ × ℕ). p.1) both.1 in
        let front : to_be_bytes w n ≡ take (byte_len w) bytes = rw (← value)
        (wide.back (take (byte_len w) bytes) (omega (arith, length-take (byte_len w) bytes))
        (AreBytes-take (byte_len w) bytes fits)) in (
          rw front (rw (← count) (sym (take-append-drop (byte_len w) bytes))),
          subst (λ (m : ℕ). m < limit) value
              (wide.below (take (byte_len w) bytes) (AreBytes-take (byte_len w) bytes fits)),
          sym count,
        )

one_byte : (bytes : List ℕ) → length bytes ≡ 1 → AreBytes bytes → to_be_bytes w8 (from_be_bytes w8 bytes) ≡ bytes
one_byte [] len fits = absurd (omega arith)
one_byte (b ∷ []) len fits = ap (λ (n : ℕ). n ∷ []) (mod-eq_of_lt (fits 0))
one_byte (b ∷ c ∷ bs) len fits = absurd (omega arith)

pub back8 : ReadsBack w8 (2 ^ 8)
back8 = reads_back w8 (2 ^ 8) (record {
  len = λ n. refl;
  back = one_byte;
  again = λ n lt. mod-eq_of_lt lt;
  below = λ bytes fits. omega (arith, fits 0);
})

pub back16 : ReadsBack w16 (2 ^ 16)
back16 = reads_back w16 (2 ^ 16) (record {
  len = λ n. refl;
  back = λ bytes len fits. be_bytes_2 bytes _ len fits refl;
  again = λ n lt. from_be_bytes-to_be_bytes_2 n lt;
  below = λ bytes fits. omega (arith, fits 0, fits 1);
})

pub back32 : ReadsBack w32 (2 ^ 32)
back32 = reads_back w32 (2 ^ 32) (record {
  len = λ n. refl;
  back = λ bytes len fits. be_bytes_4 bytes _ len fits refl;
  again = λ n lt. from_be_bytes-to_be_bytes_4 n lt;
  below = λ bytes fits. omega (arith, fits 0, fits 1, fits 2, fits 3);
})

pub back64 : ReadsBack w64 (2 ^ 64)
back64 = reads_back w64 (2 ^ 64) (record {
  len = λ n. refl;
  back = λ bytes len fits. be_bytes_8 bytes _ len fits refl;
  again = λ n lt. from_be_bytes-to_be_bytes_8 n lt;
  below = λ bytes fits. omega (arith, fits 0, fits 1, fits 2, fits 3, fits 4, fits 5, fits 6, fits 7);
})
