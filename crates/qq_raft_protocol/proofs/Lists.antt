-- What stands in a list that is longer, that was filtered or mapped.
use Rattle.std.proofs.Common.{◌≡◌, ◌⊎◌, ℕ, Bool, true, false, cond, List, [], ◌∷◌, ◌++◌, map, refl, sym, ap, subst, ◌∙◌, inl, inr}
use Rattle.std.specs.Prelude.{filter}
use Rattle.std.proofs.lemmas.Bool.{false≢true, cases_eq}
use Rattle.qq_base.specs.Fronts.{IsFront}
use Rattle.qq_raft_protocol.specs.Facts.{In}

pub In-left : {A : Type 0} (x : A) (xs ys : List A) → In x xs → In x (xs ++ ys)
In-left x [] ys here = absurd here
In-left x (y ∷ xs) ys (inl same) = inl same
In-left x (y ∷ xs) ys (inr later) = inr (In-left x xs ys later)

pub In-front : {A : Type 0} {a b : List A} (x : A) → IsFront a b → In x a → In x b
In-front {a = a} {b = b} x p here = subst (λ t. In x t) (sym p.is) (In-left x a p.rest here)

pub In-append : {A : Type 0} (x : A) (xs ys : List A) → In x (xs ++ ys) → In x xs ⊎ In x ys
In-append x [] ys here = inr here
In-append x (y ∷ xs) ys (inl same) = inl (inl same)
In-append x (y ∷ xs) ys (inr later) =
    elim (In-append x xs ys later) [ inl first ↦ inl (inr first) | inr second ↦ inr second ]

pub In-right : {A : Type 0} (x : A) (xs ys : List A) → In x ys → In x (xs ++ ys)
In-right x [] ys here = here
In-right x (y ∷ xs) ys here = inr (In-right x xs ys here)

-- whether a number stands in a list
pub In-cases : (q : ℕ) (ms : List ℕ) → In q ms ⊎ (In q ms → ⊥)
In-cases q [] = inr (λ here. here)
In-cases q (m ∷ ms) =
    elim (cases_eq q m) [
      | inl same ↦ inl (inl same)
      | inr other ↦ elim (In-cases q ms) [
        | inl here ↦ inl (inr here)
        | inr away ↦ inr (λ here. elim here [ inl same ↦ other same | inr later ↦ away later ])
      ]
    ]

-- ---- what a filter leaves

In-filter_by : {A : Type 0} (passes : A → Bool) (x y : A) (ys : List A) (b : Bool) → passes y ≡ b
    → (In x (filter passes ys) → In x ys × (passes x ≡ true))
    → In x (cond b (y ∷ filter passes ys) (filter passes ys)) → In x (y ∷ ys) × (passes x ≡ true)
In-filter_by passes x y ys true e rest here = elim here [
  | inl same ↦ (inl same, ap passes same ∙ e)
  | inr later ↦ let r = rest later in (inr r.0, r.1)
]
In-filter_by passes x y ys false e rest here = let r = rest here in (inr r.0, r.1)

pub In-filter : {A : Type 0} (passes : A → Bool) (x : A) (xs : List A) → In x (filter passes xs)
    → In x xs × (passes x ≡ true)
In-filter passes x [] here = absurd here
In-filter passes x (y ∷ ys) here = In-filter_by passes x y ys (passes y) refl (In-filter passes x ys) here

filter-In_by : {A : Type 0} (passes : A → Bool) (x y : A) (ys : List A) (b : Bool) → passes y ≡ b
    → passes x ≡ true → (In x ys → In x (filter passes ys)) → In x (y ∷ ys)
    → In x (cond b (y ∷ filter passes ys) (filter passes ys))
filter-In_by passes x y ys true e pass rest here = elim here [ inl same ↦ inl same | inr later ↦ inr (rest later) ]
filter-In_by passes x y ys false e pass rest here = elim here [
  | inl same ↦ absurd (false≢true (sym e ∙ ap passes (sym same) ∙ pass))
  | inr later ↦ rest later
]

pub filter-In : {A : Type 0} (passes : A → Bool) (x : A) (xs : List A) → passes x ≡ true → In x xs
    → In x (filter passes xs)
filter-In passes x [] pass here = absurd here
filter-In passes x (y ∷ ys) pass here =
    filter-In_by passes x y ys (passes y) refl pass (filter-In passes x ys pass) here

-- ---- what a map leaves

-- what stands in a list that was mapped
pub record Mapped {A B : Type 0} (f : A → B) (xs : List A) (y : B) : Type 0 where
  pub item : A
  pub here : In item xs
  pub is : y ≡ f item

pub In-map : {A B : Type 0} (f : A → B) (y : B) (xs : List A) → In y (map f xs) → Mapped f xs y
In-map f y [] here = absurd here
In-map f y (x ∷ xs) (inl same) = record { item = x; here = inl refl; is = same }
In-map f y (x ∷ xs) (inr later) =
    let m = In-map f y xs later in
    record { item = m.item; here = inr m.here; is = m.is }

pub map-In : {A B : Type 0} (f : A → B) (x : A) (xs : List A) → In x xs → In (f x) (map f xs)
map-In f x [] here = absurd here
map-In f x (y ∷ xs) (inl same) = inl (ap f same)
map-In f x (y ∷ xs) (inr later) = inr (map-In f x xs later)
