-- Pairs of lanes that differ at a place, one after the other.
use Rattle.std.proofs.Common.{◌≡◌, ◌⊎◌, ◌+◌, ◌<◌, ◌≤◌, ℕ, List, length, Some, arith, inl, inr, refl, subst}
use Rattle.std.specs.Prelude.{slice_get}
use Rattle.std.proofs.Math.Nat.{eq-or-lt_of_le}
use Rattle.std.proofs.lemmas.Option.{slice_get_within}
use Rattle.qq_base.specs.declared.ids.NodeId.{NodeId}
use Rattle.qq_base.specs.declared.ids.Term.{Term}
use Rattle.qq_doctor.specs.Lanes.{Differ, DifferAmong, Found, term_at}
use Rattle.qq_doctor.specs.Verdicts.{AreAlike, IsDifference, IsEarlier, IsFirstFrom}
use Rattle.qq_doctor.proofs.Differing.{some-one}

-- ---- with one lane

pub from-pair : (place : ℕ) (lanes : List Found) (i j : ℕ) (x y : Found) (s t : Term) → slice_get lanes i ≡ Some x
    → slice_get lanes j ≡ Some y → i < j
    → Differ place x.1 y.1 × (term_at place x.1 ≡ Some s) × (term_at place y.1 ≡ Some t)
    → ((other : ℕ) → i < other → other < j → DifferAmong place lanes i other → ⊥)
    → IsFirstFrom place lanes i (x.0, s) (y.0, t)
from-pair place lanes i j x y s t x_is y_is order difference before = record {
  j = j;
  order = order;
  differ = record { x = x; y = y; x_is = x_is; y_is = y_is; differ = difference.0 };
  first = before;
  shows_a = record { found = x; is = x_is; of_node = refl; has = difference.1 };
  shows_b = record { found = y; is = y_is; of_node = refl; has = difference.2 };
}

-- one more doesn't differ from it
pub from-more : (place : ℕ) (lanes : List Found) (i j : ℕ) (x y : Found) → slice_get lanes i ≡ Some x
    → slice_get lanes j ≡ Some y → (Differ place x.1 y.1 → ⊥)
    → ((other : ℕ) → i < other → other < j → DifferAmong place lanes i other → ⊥) → (other : ℕ) → i < other
    → other < j + 1 → DifferAmong place lanes i other → ⊥
from-more place lanes i j x y x_is y_is same before other above below d =
    let le : other ≤ j = omega (arith, below) in
    by (eq-or-lt_of_le le)
  where
    by : (other ≡ j) ⊎ (other < j) → ⊥
    by (inr lt) = before other above lt d
    by (inl e) =
        let is_y : slice_get lanes j ≡ Some d.y = subst (λ (n : ℕ). slice_get lanes n ≡ Some d.y) e d.y_is in
        let one : d.x ≡ x = some-one d.x x _ d.x_is x_is in
        let two : d.y ≡ y = some-one d.y y _ is_y y_is in
        same (subst (λ (f : Found). Differ place x.1 f.1) two
        (subst (λ (f : Found). Differ place f.1 d.y.1) one d.differ))

-- none does after the last
pub from-all : (place : ℕ) (lanes : List Found) (i j : ℕ) → length lanes ≤ j
    → ((other : ℕ) → i < other → other < j → DifferAmong place lanes i other → ⊥) → (other : ℕ) → i < other
    → DifferAmong place lanes i other → ⊥
from-all place lanes i j end before other above d =
    let within = slice_get_within lanes other d.y d.y_is in
    before other above (omega (arith, within, end)) d

-- ---- with each

pub pair : (place : ℕ) (lanes : List Found) (i : ℕ) (a b : NodeId × Term) → IsFirstFrom place lanes i a b
    → ((k l : ℕ) → k < l → k < i → DifferAmong place lanes k l → ⊥) → IsDifference place lanes a b
pair place lanes i a b from before = record {
  i = i;
  j = from.j;
  pair = record { order = from.order; differ = from.differ; first = first };
  shows_a = from.shows_a;
  shows_b = from.shows_b;
}
  where
    first : (k l : ℕ) → k < l → IsEarlier k l i from.j → DifferAmong place lanes k l → ⊥
    first k l order (inl lt) d = before k l order lt d
    first k l order (inr here) d =
        from.first l (subst (λ (n : ℕ). n < l) here.0 order) here.1
        (subst (λ (n : ℕ). DifferAmong place lanes n l) here.0 d)

pub pair-more : (place : ℕ) (lanes : List Found) (i : ℕ)
    → ((l : ℕ) → i < l → DifferAmong place lanes i l → ⊥)
    → ((k l : ℕ) → k < l → k < i → DifferAmong place lanes k l → ⊥) → (k l : ℕ) → k < l → k < i + 1
    → DifferAmong place lanes k l → ⊥
pair-more place lanes i none before k l order below d =
    let le : k ≤ i = omega (arith, below) in
    by (eq-or-lt_of_le le)
  where
    by : (k ≡ i) ⊎ (k < i) → ⊥
    by (inr lt) = before k l order lt d
    by (inl e) =
        none l (subst (λ (n : ℕ). n < l) e order) (subst (λ (n : ℕ). DifferAmong place lanes n l) e d)

pub all-alike : (place : ℕ) (lanes : List Found) (i : ℕ) → length lanes ≤ i
    → ((k l : ℕ) → k < l → k < i → DifferAmong place lanes k l → ⊥) → AreAlike place lanes
all-alike place lanes i end before k l order d =
    let within = slice_get_within lanes k d.x d.x_is in
    before k l order (omega (arith, within, end)) d
