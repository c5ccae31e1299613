-- An item that is set, of a list that answers a default past its end.
use Rattle.std.proofs.Common.{◌≡◌, ◌⊎◌, ℕ, zero, suc, ◌<◌, List, [], ◌∷◌, length, refl, sym, ap, subst, ◌∙◌, inl, inr, arith}
use Rattle.std.specs.Prelude.{slice_get, slice_set, unwrap_or}
use Rattle.std.proofs.lemmas.Bool.{cases_eq}
use Rattle.qq_base.proofs.Puts.{put-other, put-same}
use Rattle.qq_base.specs.Fronts.{put}

abbrev item_at : {A : Type 0} → A → List A → ℕ → A
item_at d xs k = unwrap_or (slice_get xs k) d

set-own : {A : Type 0} (d : A) (xs : List A) (k : ℕ) (x : A) → k < length xs → item_at d (slice_set xs k x) k ≡ x
set-own d [] k x lt = absurd (omega (arith, lt))
set-own d (y ∷ xs) zero x lt = refl
set-own d (y ∷ xs) (suc k) x lt = set-own d xs k x (omega (arith, lt))

set-other : {A : Type 0} (d : A) (xs : List A) (k i : ℕ) (x : A) → (i ≡ k → ⊥)
    → item_at d (slice_set xs k x) i ≡ item_at d xs i
set-other d [] k i x other = refl
set-other d (y ∷ xs) zero zero x other = absurd (other refl)
set-other d (y ∷ xs) zero (suc i) x other = refl
set-other d (y ∷ xs) (suc k) zero x other = refl
set-other d (y ∷ xs) (suc k) (suc i) x other = set-other d xs k i x (λ e. other (ap suc e))

pub item-set : {A : Type 0} (d : A) (xs : List A) (k i : ℕ) (x : A) → k < length xs
    → unwrap_or (slice_get (slice_set xs k x) i) d ≡ put k x (λ j. unwrap_or (slice_get xs j) d) i
item-set d xs k i x lt = by (cases_eq i k)
  where
    by : (i ≡ k) ⊎ (i ≡ k → ⊥) → item_at d (slice_set xs k x) i ≡ put k x (item_at d xs) i
    by (inl same) =
        subst (λ (j : ℕ). item_at d (slice_set xs k x) j ≡ put k x (item_at d xs) j) (sym same)
        (set-own d xs k x lt ∙ sym (put-same k x (item_at d xs)))
    by (inr other) = set-other d xs k i x other ∙ sym (put-other k x (item_at d xs) i other)
