-- Tests of each item of a list, and of what follows where another test passes.
use Rattle.std.proofs.Common.{◌≡◌, ℕ, ◌≤◌, Bool, true, false, ◌&&◌, ◌||◌, List, [], ◌∷◌, refl, sym, ap, subst, ◌∙◌, inl, inr}
use Rattle.std.specs.Bool.{Decides}
use Rattle.std.specs.List.{list_all, list_any}
use Rattle.std.specs.Prelude.{nat_le}
use Rattle.std.proofs.lemmas.Bool.{false≢true, le-leb, leb-true}
use Rattle.std.proofs.lemmas.Bool.Decides.{Decides-and, Decides-like}
use Rattle.qq_raft_protocol.specs.Facts.{In}

pub Decides-leb : (a b : ℕ) → Decides (nat_le a b) (a ≤ b)
Decides-leb a b = (leb-true a b, le-leb a b)

-- a test that is asked only where another passes
pub Decides-then : {P Q : Type 0} (x y : Bool) → Decides x P → (P → Decides y Q) → Decides (x && y) (P × Q)
Decides-then true y d next = (λ e. (d.0 refl, (next (d.0 refl)).0 e), λ h. (next h.0).1 h.1)
Decides-then false y d next = (λ e. absurd (false≢true e), λ h. absurd (false≢true (d.1 h.0)))

pub list_all-decides : {A : Type 0} (test : A → Bool) (P : A → Type 0) (xs : List A)
    → ((x : A) → In x xs → Decides (test x) (P x)) → Decides (list_all test xs) ((x : A) → In x xs → P x)
list_all-decides test P [] each = (λ e x here. absurd here, λ h. refl)
list_all-decides test P (y ∷ ys) each =
    Decides-like (test y && list_all test ys)
    (λ h x here. elim here [ inl same ↦ subst P (sym same) h.0 | inr later ↦ h.1 x later ])
    (λ h. (h y (inl refl), λ x later. h x (inr later)))
    (Decides-and (test y) (list_all test ys) (each y (inl refl))
    (list_all-decides test P ys (λ x later. each x (inr later))))

-- some item is so
pub record Has {A : Type 0} (xs : List A) (P : A → Type 0) : Type 0 where
  pub item : A
  pub here : In item xs
  pub is : P item

pub list_any-has : {A : Type 0} (test : A → Bool) (xs : List A) → list_any test xs ≡ true
    → Has xs (λ x. test x ≡ true)
list_any-has test [] e = absurd (false≢true e)
list_any-has test (y ∷ ys) e = by (test y) refl (list_any-has test ys) e
  where
    by : (b : Bool) → test y ≡ b → (list_any test ys ≡ true → Has ys (λ x. test x ≡ true))
        → (b || list_any test ys) ≡ true → Has (y ∷ ys) (λ x. test x ≡ true)
    by true is rest any = record { item = y; here = inl refl; is = is }
    by false is rest any =
        let h = rest any in
        record { item = h.item; here = inr h.here; is = h.is }

pub has-list_any : {A : Type 0} (test : A → Bool) (x : A) (xs : List A) → In x xs → test x ≡ true
    → list_any test xs ≡ true
has-list_any test x [] here is = absurd here
has-list_any test x (y ∷ ys) (inl same) is = ap (λ b. b || list_any test ys) (ap test (sym same) ∙ is)
has-list_any test x (y ∷ ys) (inr later) is = or-right (test y) (list_any test ys) (has-list_any test x ys later is)
  where
    or-right : (a b : Bool) → b ≡ true → (a || b) ≡ true
    or-right true b e = refl
    or-right false b e = e
