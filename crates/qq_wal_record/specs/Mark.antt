-- Marks, which tell bytes that were written from others.
use Rattle.std.specs.Prelude.{ℕ, Bool, List, take, nat_eq}
use Rattle.std.specs.Cmp.Lexicographic.{pointwise}
use Rattle.sha2.specs.Sha256.{sha256}

-- the first 8 bytes of a digest under SHA-256 (FIPS 180-4)
unfoldable pub mark : List ℕ → List ℕ
mark bytes = take 8 (sha256 bytes)

abbrev pub same_bytes : List ℕ → List ℕ → Bool
same_bytes a b = pointwise nat_eq a b
