-- What a function that is handed on computes.
use Rattle.std.specs.Prelude.{◌≡◌}

-- each result of a call is that of this function
abbrev pub Computes : {A B : Type 0} → (A → B → Type 0) → (A → B) → Type 0
Computes {A} {B} gives f = (x : A) (result : B) → gives x result → result ≡ f x

-- the same of two arguments
abbrev pub Compares : {A B : Type 0} → (A → A → B → Type 0) → (A → A → B) → Type 0
Compares {A} {B} gives f = (x y : A) (result : B) → gives x y result → result ≡ f x y
