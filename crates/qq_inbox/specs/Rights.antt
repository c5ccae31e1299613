-- A right that one view at most has, and the value that whoever has it knows.
use Rattle.std.specs.Prelude.{◌≡◌, ℕ, Bool, true, List}
use mathlib.Core.Option.{some}
use lib.ListN.{get_elem?}

module _ {V A : Type 0} (has : V → Bool) (value : V → A) where
  -- a view that has the right stands at this place, and knows x
  abbrev pub HeldAt : ℕ → A → List V → Type 0
  HeldAt place x views =
      (other : ℕ) (v : V) → get_elem? views other ≡ some v → has v ≡ true → (other ≡ place) × (value v ≡ x)

  -- one view at most has the right, and knows x
  abbrev pub Owned : A → List V → Type 0
  Owned x views = (place : ℕ) × HeldAt place x views
