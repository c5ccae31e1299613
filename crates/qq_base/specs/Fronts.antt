-- Lists that begin others, and functions that differ at one number.
use Rattle.std.specs.Prelude.{◌≡◌, ℕ, List, ◌++◌, nat_eq, if◌then◌else◌}

-- one list begins another
pub record IsFront {A : Type 0} (front whole : List A) : Type 0 where
  pub rest : List A
  pub is : whole ≡ front ++ rest

-- a function with another value at one number
unfoldable pub put : {A : Type 0} → ℕ → A → (ℕ → A) → ℕ → A
put k x f i = if nat_eq i k then x else f i
