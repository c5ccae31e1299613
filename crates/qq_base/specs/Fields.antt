-- Numbers of one, two, four and eight bytes, the high byte first.
use Rattle.std.specs.Prelude.{◌≡◌, ◌<◌, ◌++◌, ℕ, List, Option, Some, None, length, take, drop, nat_lt, slice_index, if◌then◌else◌}
use Rattle.std.specs.Int.{Width, byte_len, from_be_bytes, to_be_bytes}

-- the number that the first bytes spell, and how many they are; None where there are too few
abbrev pub number_at : Width → List ℕ → Option (ℕ × ℕ)
number_at w bytes =
    if nat_lt (length bytes) (byte_len w) then None else Some (from_be_bytes w (take (byte_len w) bytes), byte_len w)

-- each item is a byte
abbrev pub AreBytes : List ℕ → Type 0
AreBytes bytes = (i : ℕ) → slice_index bytes i < 256

-- a number below the limit has one spelling, which is read again whatever follows it
pub record ReadsBack (w : Width) (limit : ℕ) : Type 0 where
  pub again : (n : ℕ) (rest : List ℕ) → n < limit → number_at w (to_be_bytes w n ++ rest) ≡ Some (n, byte_len w)
  pub alone : (bytes : List ℕ) (n taken : ℕ) → AreBytes bytes → number_at w bytes ≡ Some (n, taken)
      → (bytes ≡ to_be_bytes w n ++ drop taken bytes) × (n < limit) × (taken ≡ byte_len w)
