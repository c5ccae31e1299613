-- Two lists with the same items, in any order.
use Rattle.std.specs.Prelude.{List, [], ◌∷◌}

pub data Perm {A : Type 0} : List A → List A → Type 0 where
  done : Perm {A = A} [] []
  skip : (x : A) (xs ys : List A) → Perm {A = A} xs ys → Perm {A = A} (x ∷ xs) (x ∷ ys)
  swap : (x y : A) (xs : List A) → Perm {A = A} (x ∷ y ∷ xs) (y ∷ x ∷ xs)
  join : (xs ys zs : List A) → Perm {A = A} xs ys → Perm {A = A} ys zs → Perm {A = A} xs zs
