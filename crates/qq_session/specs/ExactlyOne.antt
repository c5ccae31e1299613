-- Lists with exactly one item of a kind.
use Rattle.std.specs.Prelude.{◌≡◌, List, ◌∷◌, ◌++◌}

-- exactly one item of a list is so
pub record ExactlyOne {A : Type 0} (Is : A → Type 0) (items : List A) : Type 0 where
  pub before : List A
  pub item : A
  pub behind : List A
  pub are : items ≡ before ++ item ∷ behind
  pub is : Is item
  pub none_before : (front rest : List A) (other : A) → before ≡ front ++ other ∷ rest → Is other → ⊥
  pub none_behind : (front rest : List A) (other : A) → behind ≡ front ++ other ∷ rest → Is other → ⊥
