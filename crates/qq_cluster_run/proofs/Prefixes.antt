-- What a sink has of a text that is written part by part.
use Rattle.std.proofs.Common.{ℕ, List, ◌++◌, Option, take, sym, subst, arith, length, ◌+◌}
use Rattle.std.proofs.lemmas.List.{length-append}
use Rattle.std.proofs.Math.Seq.{take-append-add}
use Rattle.std.specs.Io.KnownBytes.{Appends}
use Rattle.std.proofs.KnownBytes.{Appends-trans}
use Rattle.qq_ports.specs.Faults.{AppendsPrefix}

-- a text, and then a prefix of another
pub prefix_then : (a b c : Option (List ℕ)) (xs ys : List ℕ) → Appends a b xs → AppendsPrefix b c ys
    → AppendsPrefix a c (xs ++ ys)
prefix_then a b c xs ys first (n, le, grown) = (
  length xs + n,
  omega (arith, length-append xs ys),
  subst (Appends a c) (sym (take-append-add xs ys n))
      (Appends-trans a b c xs (take n ys) first grown),
)
