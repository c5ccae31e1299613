-- What a sink has after one more piece.
use Rattle.std.proofs.Common.{ℕ, ◌+◌, List, Option, take, drop, subst, sym}
use Rattle.std.proofs.Math.Seq.{take-add}
use Rattle.std.specs.Io.KnownBytes.{Appends}
use Rattle.std.proofs.KnownBytes.{Appends-trans}

-- a prefix of a text, and then a prefix of its rest, are a prefix
pub appends_more : (a b c : Option (List ℕ)) (bytes : List ℕ) (m n : ℕ) → Appends a b (take m bytes)
    → Appends b c (take n (drop m bytes)) → Appends a c (take (m + n) bytes)
appends_more a b c bytes m n p q =
    subst (Appends a c) (sym (take-add m n bytes)) (Appends-trans a b c (take m bytes) (take n (drop m bytes)) p q)
