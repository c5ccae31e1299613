-- Facts of each of a list.
use Rattle.std.proofs.Common.{List, [], ◌∷◌}
use Rattle.std.specs.List.{AllByRecursion}

pub all-both : {A : Type 0} (P Q R : A → Type 0) → ((x : A) → P x → Q x → R x) → (xs : List A)
    → AllByRecursion P xs → AllByRecursion Q xs → AllByRecursion R xs
all-both P Q R join [] ps qs = tt
all-both P Q R join (x ∷ xs) ps qs = (join x ps.0 qs.0, all-both P Q R join xs ps.1 qs.1)

-- what holds of all
pub of-each : {A : Type 0} (P : A → Type 0) → ((x : A) → P x) → (xs : List A) → AllByRecursion P xs
of-each P each [] = tt
of-each P each (x ∷ xs) = (each x, of-each P each xs)
