-- What is said of a queue's lanes.
use Rattle.std.specs.Prelude.{◌≡◌, ◌⊎◌, ◌<◌, ◌≤◌, ℕ, List, Some, slice_get}
use Rattle.qq_base.specs.declared.ids.NodeId.{NodeId}
use Rattle.qq_base.specs.declared.ids.Term.{Term}
use Rattle.qq_doctor.specs.Lanes.{Counts, DifferAmong, Found, term_at}
use Rattle.qq_doctor.specs.declared.verdict.Verdict.{Verdict}
use Rattle.qq_doctor.specs.declared.verdict.Verdict.TheVariants as verdicts

-- no two of the lanes differ at a place
abbrev pub AreAlike : ℕ → List Found → Type 0
AreAlike place lanes = (i j : ℕ) → i < j → DifferAmong place lanes i j → ⊥

-- a place that counts, and at which no two lanes differ
pub record IsAgreed (members : ℕ) (lanes : List Found) (place : ℕ) : Type 0 where
  pub counts : Counts members lanes place
  pub alike : AreAlike place lanes

-- pairs go by their first lane, and then by their second
abbrev pub IsEarlier : (k l i j : ℕ) → Type 0
IsEarlier k l i j = (k < i) ⊎ ((k ≡ i) × (l < j))

-- the first two lanes that differ at a place
pub record IsFirstPair (place : ℕ) (lanes : List Found) (i j : ℕ) : Type 0 where
  pub order : i < j
  pub differ : DifferAmong place lanes i j
  pub first : (k l : ℕ) → k < l → IsEarlier k l i j → DifferAmong place lanes k l → ⊥

-- the lane that stands there in the list is of this node, and has this term at a place
pub record Shows (place : ℕ) (lanes : List Found) (at : ℕ) (node : NodeId) (term : Term) : Type 0 where
  pub found : Found
  pub is : slice_get lanes at ≡ Some found
  pub of_node : found.0 ≡ node
  pub has : term_at place found.1 ≡ Some term

-- the lane that stands there in the list, and the first after it that differs from it at a place, with their terms there
pub record IsFirstFrom (place : ℕ) (lanes : List Found) (i : ℕ) (a b : NodeId × Term) : Type 0 where
  pub j : ℕ
  pub order : i < j
  pub differ : DifferAmong place lanes i j
  pub first : (l : ℕ) → i < l → l < j → DifferAmong place lanes i l → ⊥
  pub shows_a : Shows place lanes i a.0 a.1
  pub shows_b : Shows place lanes j b.0 b.1

-- two lanes, the first that differ at a place, with their terms there
pub record IsDifference (place : ℕ) (lanes : List Found) (a b : NodeId × Term) : Type 0 where
  pub i : ℕ
  pub j : ℕ
  pub pair : IsFirstPair place lanes i j
  pub shows_a : Shows place lanes i a.0 a.1
  pub shows_b : Shows place lanes j b.0 b.1

-- `Agree` up to the greatest place that counts, where no two lanes differ at any that does. Else `Differ`, at the least
-- place that counts at which two do, with the first two of these. Places are counted from 1.
abbrev pub Means : (members : ℕ) → List Found → Verdict → Type 0
Means members lanes (verdicts.Agree upto) =
    ((place : ℕ) → 1 ≤ place → place ≤ upto.0 → IsAgreed members lanes place)
    × ((place : ℕ) → upto.0 < place → Counts members lanes place → ⊥)
Means members lanes (verdicts.Differ index a b) =
    (1 ≤ index.0) × Counts members lanes index.0 × IsDifference index.0 lanes a b
    × ((place : ℕ) → 1 ≤ place → place < index.0 → IsAgreed members lanes place)
