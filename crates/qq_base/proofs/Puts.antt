-- A function with another value at one number.
use Rattle.std.proofs.Common.{◌≡◌, ℕ, Bool, true, false, cond, eqb, refl, sym, subst}
use Rattle.std.proofs.lemmas.Bool.{eqb-true, eqb-false, eq-eqb, ne_eqb}
use Rattle.qq_base.specs.Fronts.{put}

put_by : {A : Type 0} (P : ℕ → A → Type 0) (k i : ℕ) (x y : A) (b : Bool) → eqb i k ≡ b → P k x
    → ((i ≡ k → ⊥) → P i y) → P i (cond b x y)
put_by P k i x y true e new old = subst (λ j. P j x) (sym (eqb-true i k e)) new
put_by P k i x y false e new old = old (eqb-false i k e)

-- what holds of the new value, and of the others at the other numbers
pub put-each : {A : Type 0} (P : ℕ → A → Type 0) (k : ℕ) (x : A) (f : ℕ → A) → P k x
    → ((i : ℕ) → (i ≡ k → ⊥) → P i (f i)) → (i : ℕ) → P i (put k x f i)
unfolding put
put-each P k x f new old i = put_by P k i x (f i) (eqb i k) refl new (old i)

pub put-same : {A : Type 0} (k : ℕ) (x : A) (f : ℕ → A) → put k x f k ≡ x
unfolding put
put-same k x f = rw (eq-eqb k k refl) refl

pub put-other : {A : Type 0} (k : ℕ) (x : A) (f : ℕ → A) (i : ℕ) → (i ≡ k → ⊥) → put k x f i ≡ f i
unfolding put
put-other k x f i other = rw (ne_eqb i k other) refl
