-- Items of a list that change, one after the other.
use Rattle.std.proofs.Common.{◌≡◌, ◌≢◌, ◌⊎◌, ℕ, zero, suc, List, [], ◌∷◌, ◌++◌, Some, length, refl, sym, ap, ◌∙◌, subst, inl, inr, arith}
use Rattle.std.specs.Prelude.{slice_get, slice_set}
use Rattle.qq_raft_protocol.specs.Facts.{In}
use Rattle.qq_opening.specs.Taking.{AllChange, ChangesAt}

pub set-get : {A : Type 0} (xs : List A) (at i : ℕ) (x d : A) → slice_get (slice_set xs at x) i ≡ Some d
    → ((i ≡ at) × (d ≡ x)) ⊎ ((i ≢ at) × (slice_get xs i ≡ Some d))
set-get [] at i x d is = absurd (none i is)
  where
    none : (k : ℕ) → slice_get [] k ≡ Some d → ⊥
    none k e = absurd cc
set-get (y ∷ ys) zero zero x d is = inl (refl, (let e : x ≡ d = cc in sym e))
set-get (y ∷ ys) zero (suc i) x d is = inr ((λ e. absurd (omega (arith, e))), is)
set-get (y ∷ ys) (suc at) zero x d is = inr ((λ e. absurd (omega (arith, e))), is)
set-get (y ∷ ys) (suc at) (suc i) x d is =
    elim (set-get ys at i x d is) [
      | inl same ↦ inl (ap suc same.0, same.1)
      | inr other ↦ inr ((λ e. other.0 (omega (arith, e))), other.1)
    ]

pub set-long : {A : Type 0} (xs : List A) (at : ℕ) (x : A) → length (slice_set xs at x) ≡ length xs
set-long [] zero x = refl
set-long [] (suc at) x = refl
set-long (y ∷ ys) zero x = refl
set-long (y ∷ ys) (suc at) x = ap suc (set-long ys at x)

-- no two of the items have one index
abbrev pub AreApart : {A : Type 0} → (A → ℕ) → List A → Type 0
AreApart at [] = Unit {0}
AreApart {A} at (x ∷ xs) = ((y : A) → In y xs → at y ≡ at x → ⊥) × AreApart at xs

-- an item of the list has changed as one of the others does, or is as it was
pub record Became {A Q : Type 0} (at : A → ℕ) (Does : A → Q → Q → Type 0) (xs : List A) (olds : List Q) (i : ℕ) (d : Q)
    : Type 0 where
  pub old : Q
  pub was : slice_get olds i ≡ Some old
  pub how : ((x : A) × In x xs × (at x ≡ i) × Does x old d) ⊎ (((x : A) → In x xs → at x ≡ i → ⊥) × (d ≡ old))

module _ {A Q : Type 0} (at : A → ℕ) (Does : A → Q → Q → Type 0) where
  changed-at : (x : A) (olds news : List Q) (i : ℕ) (d : Q) → ChangesAt (Does x) (at x) olds news
      → slice_get news i ≡ Some d
      → ((i ≡ at x) × ((old : Q) × (slice_get olds i ≡ Some old) × Does x old d))
      ⊎ ((i ≢ at x) × (slice_get olds i ≡ Some d))
  changed-at x olds news i d c is =
      elim (set-get olds (at x) i c.new d (ap (λ (l : List Q). slice_get l i) (sym c.is) ∙ is)) [
        | inl same ↦ inl (
          same.0,
          (c.old, ap (slice_get olds) same.0 ∙ c.here, subst (Does x c.old) (sym same.1) c.does),
        )
        | inr other ↦ inr other
      ]

  became-none : (olds news : List Q) (i : ℕ) (d : Q) → news ≡ olds → slice_get news i ≡ Some d
      → Became at Does [] olds i d
  became-none olds news i d same is = record {
    old = d;
    was = ap (λ (l : List Q). slice_get l i) (sym same) ∙ is;
    how = inr ((λ x here e. absurd here), refl);
  }

  became-more : (x : A) (xs : List A) (olds mid : List Q) (i : ℕ) (d : Q) → ((y : A) → In y xs → at y ≡ at x → ⊥)
      → ChangesAt (Does x) (at x) olds mid → Became at Does xs mid i d → Became at Does (x ∷ xs) olds i d
  became-more x xs olds mid i d apart first later = by later.how
    where
      back : ((i ≡ at x) × ((old : Q) × (slice_get olds i ≡ Some old) × Does x old later.old))
          ⊎ ((i ≢ at x) × (slice_get olds i ≡ Some later.old))
      back = changed-at x olds mid i later.old first later.was

      by : ((y : A) × In y xs × (at y ≡ i) × Does y later.old d) ⊎
          (((y : A) → In y xs → at y ≡ i → ⊥) × (d ≡ later.old))
          → Became at Does (x ∷ xs) olds i d
      by (inl own) = elim back [
        | inl same ↦ absurd (apart own.0 own.1 (own.2 ∙ same.0))
        | inr other ↦ record { old = later.old; was = other.1; how = inl (own.0, inr own.1, own.2, own.3) }
      ]
      by (inr none) = elim back [
        | inl same ↦ record {
          old = same.1.0;
          was = same.1.1;
          how = inl (x, inl refl, sym same.0, subst (Does x same.1.0) (sym none.1) same.1.2);
        }
        | inr other ↦ record {
          old = later.old;
          was = other.1;
          how = inr ((λ y here e. not-here y here e other.0), none.1);
        }
      ]
        where
          not-here : (y : A) → In y (x ∷ xs) → at y ≡ i → i ≢ at x → ⊥
          not-here y (inl same) e apart' = apart' (sym e ∙ ap at same)
          not-here y (inr here) e apart' = none.0 y here e

  pub all-became : (xs : List A) (olds news : List Q) (i : ℕ) (d : Q) → AreApart at xs
      → AllChange at Does xs olds news → slice_get news i ≡ Some d → Became at Does xs olds i d
  all-became [] olds news i d apart all is = became-none olds news i d all is
  all-became (x ∷ xs) olds news i d apart (mid, first, rest) is =
      became-more x xs olds mid i d apart.0 first (all-became xs mid news i d apart.1 rest is)

  pub all-long : (xs : List A) (olds news : List Q) → AllChange at Does xs olds news → length news ≡ length olds
  all-long [] olds news all = ap length all
  all-long (x ∷ xs) olds news (mid, first, rest) =
      all-long xs mid news rest ∙ ap length first.is ∙ set-long olds (at x) first.new

  -- one more
  pub all-then : (xs : List A) (x : A) (olds mid news : List Q) → AllChange at Does xs olds mid
      → ChangesAt (Does x) (at x) mid news → AllChange at Does (xs ++ x ∷ []) olds news
  all-then [] x olds mid news all last =
      (news, subst (λ (l : List Q). ChangesAt (Does x) (at x) l news) all last, refl)
  all-then (y ∷ xs) x olds mid news (next, first, rest) last = (next, first, all-then xs x next mid news rest last)

  -- what isn't among them is as it was
  pub all-others : (xs : List A) (olds news : List Q) (i : ℕ) (d : Q) → AreApart at xs → AllChange at Does xs olds news
      → ((x : A) → In x xs → at x ≡ i → ⊥) → slice_get news i ≡ Some d → slice_get olds i ≡ Some d
  all-others xs olds news i d apart all none is = by became.how
    where
      became : Became at Does xs olds i d
      became = all-became xs olds news i d apart all is

      by : ((y : A) × In y xs × (at y ≡ i) × Does y became.old d) ⊎
          (((y : A) → In y xs → at y ≡ i → ⊥) × (d ≡ became.old))
          → slice_get olds i ≡ Some d
      by (inl own) = absurd (none own.0 own.1 own.2)
      by (inr same) = became.was ∙ ap Some (sym same.1)
