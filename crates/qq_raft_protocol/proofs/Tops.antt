-- Of lists any two of which agree, the longest.
use Rattle.std.proofs.Common.{◌≡◌, ◌⊎◌, ℕ, List, [], ◌∷◌, ◌++◌, refl, sym, ap, subst, ◌∙◌, inl, inr}
use Rattle.std.proofs.lemmas.Bool.{cases_eq}
use Rattle.qq_base.specs.Fronts.{IsFront}
use Rattle.qq_base.proofs.Fronts.{front-refl, front-trans, longer_front, same_head, same_tail}
use Rattle.qq_entry.specs.declared.command.Entry.{Entry}
use Rattle.qq_raft_protocol.specs.Facts.{add, In}
use Rattle.qq_raft_protocol.proofs.Kept.{not_empty}

-- the longest of the lists that are so
pub record Top (S : List Entry → Type 0) : Type 0 where
  pub list : List Entry
  pub is : S list
  pub longest : (y : List Entry) → S y → IsFront y list

-- there is one, or no list is so
abbrev pub HasTop : (List Entry → Type 0) → Type 0
HasTop S = Top S ⊎ ((y : List Entry) → S y → ⊥)

abbrev pub list_of : {S : List Entry → Type 0} → HasTop S → List Entry
list_of (inl top) = top.list
list_of (inr none) = []

pub top-front : {S : List Entry → Type 0} (h : HasTop S) (y : List Entry) → S y → IsFront y (list_of h)
top-front (inl top) y is = top.longest y is
top-front (inr none) y is = absurd (none y is)

-- ---- of one log

-- a front of a log that ends with an entry of a term
pub record EndsIn (t : ℕ) (log y : List Entry) : Type 0 where
  pub before : List Entry
  pub entry : Entry
  pub term : entry.term.0 ≡ t
  pub is : y ≡ add before entry
  pub front : IsFront y log

pub ends_whole : {t : ℕ} {log y : List Entry} (s : EndsIn t log y) → IsFront (add s.before s.entry) log
ends_whole {log = log} s = subst (λ (z : List Entry). IsFront z log) s.is s.front

-- the first entry of a log, and a front of the rest
record Longer (t : ℕ) (x : Entry) (log y : List Entry) : Type 0 where
  tail : List Entry
  is : y ≡ x ∷ tail
  ends : EndsIn t log tail

ends_by : (t : ℕ) (x : Entry) (log y before : List Entry) (entry : Entry) → y ≡ add before entry → entry.term.0 ≡ t
    → IsFront (add before entry) (x ∷ log) → ((y ≡ x ∷ []) × (x.term.0 ≡ t)) ⊎ Longer t x log y
ends_by t x log y [] entry is term p =
    let same : x ≡ entry = same_head x entry log p.rest p.is in
    inl (is ∙ ap (λ (z : Entry). z ∷ []) (sym same), ap (λ (z : Entry). z.term.0) same ∙ term)
ends_by t x log y (b ∷ before) entry is term p =
    let same : x ≡ b = same_head x b log (add before entry ++ p.rest) p.is in
    inr (record {
      tail = add before entry;
      is = is ∙ ap (λ (z : Entry). z ∷ add before entry) (sym same);
      ends = record {
        before = before;
        entry = entry;
        term = term;
        is = refl;
        front = record { rest = p.rest; is = same_tail x b log (add before entry ++ p.rest) p.is };
      };
    })

ends_cases : (t : ℕ) (x : Entry) (log y : List Entry) → EndsIn t (x ∷ log) y
    → ((y ≡ x ∷ []) × (x.term.0 ≡ t)) ⊎ Longer t x log y
ends_cases t x log y s = ends_by t x log y s.before s.entry s.is s.term (ends_whole s)

longer_top : (t : ℕ) (x : Entry) (log : List Entry) → HasTop (EndsIn t log)
    → (x.term.0 ≡ t) ⊎ (x.term.0 ≡ t → ⊥) → HasTop (EndsIn t (x ∷ log))
longer_top t x log (inl top) own =
    inl (record {
      list = x ∷ top.list;
      is = record {
        before = x ∷ top.is.before;
        entry = top.is.entry;
        term = top.is.term;
        is = ap (λ (z : List Entry). x ∷ z) top.is.is;
        front = longer_front x x refl top.is.front;
      };
      longest = λ y s. elim (ends_cases t x log y s) [
        | inl one ↦
            record { rest = top.list; is = ap (λ (z : List Entry). z ++ top.list) (sym one.0) }
        | inr l ↦
            subst (λ (z : List Entry). IsFront z (x ∷ top.list)) (sym l.is)
            (longer_front x x refl (top.longest l.tail l.ends))
      ];
    })
longer_top t x log (inr none) (inl own) =
    inl (record {
      list = x ∷ [];
      is = record { before = []; entry = x; term = own; is = refl; front = record { rest = log; is = refl } };
      longest = λ y s. elim (ends_cases t x log y s) [
        | inl one ↦ subst (λ (z : List Entry). IsFront z (x ∷ [])) (sym one.0) (front-refl (x ∷ []))
        | inr l ↦ absurd (none l.tail l.ends)
      ];
    })
longer_top t x log (inr none) (inr other) =
    inr (λ y s. elim (ends_cases t x log y s) [
      | inl one ↦ other one.1
      | inr l ↦ none l.tail l.ends
    ])

-- the longest front of a log that ends with an entry of a term
pub last_ends : (t : ℕ) (log : List Entry) → HasTop (EndsIn t log)
last_ends t [] = inr (λ y s. not_empty s.before [] s.entry (ends_whole s) refl)
last_ends t (x ∷ log) = longer_top t x log (last_ends t log) (cases_eq x.term.0 t)

-- ---- over a list

-- it is so of one of these
pub record Found {A : Type 0} (items : List A) (S : A → List Entry → Type 0) (y : List Entry) : Type 0 where
  pub item : A
  pub here : In item items
  pub is : S item y

abbrev pub Agree : {A : Type 0} → List A → (A → List Entry → Type 0) → Type 0
Agree {A} items S =
    (x z : A) → In x items → In z items → (a b : List Entry) → S x a → S z b → IsFront a b ⊎ IsFront b a

found_later : {A : Type 0} (x : A) (xs : List A) (S : A → List Entry → Type 0) (y : List Entry) → Found xs S y
    → Found (x ∷ xs) S y
found_later x xs S y f = record { item = f.item; here = inr f.here; is = f.is }

found_cases : {A : Type 0} (x : A) (xs : List A) (S : A → List Entry → Type 0) (y : List Entry) → Found (x ∷ xs) S y
    → S x y ⊎ Found xs S y
found_cases {A} x xs S y f = elim f.here [
  | inl same ↦ inl (subst (λ (z : A). S z y) same f.is)
  | inr later ↦ inr (record { item = f.item; here = later; is = f.is })
]

-- the longer one of two that agree
longer_of : {A : Type 0} (x : A) (xs : List A) (S : A → List Entry → Type 0) (a : Top (S x)) (b : Top (Found xs S))
    → IsFront a.list b.list ⊎ IsFront b.list a.list → Top (Found (x ∷ xs) S)
longer_of x xs S a b (inl p) = record {
  list = b.list;
  is = found_later x xs S b.list b.is;
  longest = λ y f. elim (found_cases x xs S y f) [
    | inl first ↦ front-trans (a.longest y first) p
    | inr later ↦ b.longest y later
  ];
}
longer_of x xs S a b (inr p) = record {
  list = a.list;
  is = record { item = x; here = inl refl; is = a.is };
  longest = λ y f. elim (found_cases x xs S y f) [
    | inl first ↦ a.longest y first
    | inr later ↦ front-trans (b.longest y later) p
  ];
}

first_top : {A : Type 0} (x : A) (xs : List A) (S : A → List Entry → Type 0) → HasTop (S x) → HasTop (Found xs S)
    → Agree (x ∷ xs) S → HasTop (Found (x ∷ xs) S)
first_top x xs S (inl a) (inl b) agree =
    inl (longer_of x xs S a b (agree x b.is.item (inl refl) (inr b.is.here) a.list b.list a.is b.is.is))
first_top x xs S (inl a) (inr none) agree =
    inl (record {
      list = a.list;
      is = record { item = x; here = inl refl; is = a.is };
      longest = λ y f. elim (found_cases x xs S y f) [
        | inl first ↦ a.longest y first
        | inr later ↦ absurd (none y later)
      ];
    })
first_top x xs S (inr none) (inl b) agree =
    inl (record {
      list = b.list;
      is = found_later x xs S b.list b.is;
      longest = λ y f. elim (found_cases x xs S y f) [
        | inl first ↦ absurd (none y first)
        | inr later ↦ b.longest y later
      ];
    })
first_top x xs S (inr none) (inr nobody) agree =
    inr (λ y f. elim (found_cases x xs S y f) [ inl first ↦ none y first | inr later ↦ nobody y later ])

-- the longest of all that are so of one of these
pub top_over : {A : Type 0} (items : List A) (S : A → List Entry → Type 0) → ((x : A) → HasTop (S x))
    → Agree items S → HasTop (Found items S)
top_over [] S each agree = inr (λ y f. f.here)
top_over (x ∷ xs) S each agree =
    first_top x xs S (each x)
    (top_over xs S each (λ y z first second. agree y z (inr first) (inr second))) agree
