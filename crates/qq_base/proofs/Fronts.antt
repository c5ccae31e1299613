-- Lists that begin others.
use Rattle.std.proofs.Common.{◌≡◌, ◌⊎◌, ℕ, zero, suc, ◌≤◌, List, [], ◌∷◌, ◌++◌, length, map, take, drop, refl, sym, ap, subst, ◌∙◌, append_assoc, append-nil, length-append, take-append-drop, arith, inl, inr}
use Rattle.std.specs.List.{AllByRecursion, flat_map}
use Rattle.std.proofs.lemmas.Grind.{flat_map-append}
use Rattle.std.proofs.lemmas.List.{map-append, nil_from_length}
use Rattle.qq_base.specs.Fronts.{IsFront}

pub front-refl : {A : Type 0} (a : List A) → IsFront a a
front-refl a = record { rest = []; is = sym (append-nil a) }

pub front-nil : {A : Type 0} (a : List A) → IsFront [] a
front-nil a = record { rest = a; is = refl }

pub front-more : {A : Type 0} (a rest : List A) → IsFront a (a ++ rest)
front-more a rest = record { rest = rest; is = refl }

pub front-trans : {A : Type 0} {a b c : List A} → IsFront a b → IsFront b c → IsFront a c
front-trans {a = a} p q = record {
  rest = p.rest ++ q.rest;
  is = q.is ∙ ap (λ t. t ++ q.rest) p.is ∙ append_assoc a p.rest q.rest;
}

pub front-length : {A : Type 0} {a b : List A} → IsFront a b → length a ≤ length b
front-length {a = a} p = omega (arith, ap length p.is, length-append a p.rest)

-- ---- the same change of both

-- the same in front of both
pub front-behind : {A : Type 0} (a b c : List A) → IsFront b c → IsFront (a ++ b) (a ++ c)
front-behind a b c f = record {
  rest = f.rest;
  is = ap (λ x. a ++ x) f.is ∙ sym (append_assoc a b f.rest);
}

pub front-cons : {A : Type 0} (x : A) (a b : List A) → IsFront a b → IsFront (x ∷ a) (x ∷ b)
front-cons x a b f = record { rest = f.rest; is = ap (λ l. x ∷ l) f.is }

pub front-take : {A : Type 0} (k : ℕ) (a : List A) → IsFront (take k a) a
front-take k a = record { rest = drop k a; is = sym (take-append-drop k a) }

-- the first few of a list begin the first few more of it
pub front-takes : {A : Type 0} (k n : ℕ) (a : List A) → k ≤ n → IsFront (take k a) (take n a)
front-takes zero n a le = front-nil (take n a)
front-takes (suc k) zero a le = absurd (omega (arith, le))
front-takes (suc k) (suc n) [] le = front-refl []
front-takes (suc k) (suc n) (x ∷ a) le = front-cons x (take k a) (take n a) (front-takes k n a (omega (arith, le)))

pub front-drop : {A : Type 0} (k : ℕ) (a b : List A) → IsFront a b → IsFront (drop k a) (drop k b)
front-drop zero a b f = f
front-drop (suc k) [] b f = front-nil (drop (suc k) b)
front-drop (suc k) (x ∷ a) [] f = absurd (cc (f.is))
front-drop (suc k) (x ∷ a) (y ∷ b) f =
    let whole : y ∷ b ≡ x ∷ (a ++ f.rest) = f.is in
    let tails : b ≡ a ++ f.rest = cc in
    front-drop k a b (record { rest = f.rest; is = tails })

pub front-map : {A B : Type 0} (f : A → B) (a b : List A) → IsFront a b → IsFront (map f a) (map f b)
front-map f a b front = record {
  rest = map f front.rest;
  is = ap (map f) front.is ∙ map-append f a front.rest;
}

pub front-flat_map : {A B : Type 0} (f : A → List B) (a b : List A) → IsFront a b
    → IsFront (flat_map f a) (flat_map f b)
front-flat_map f a b front = record {
  rest = flat_map f front.rest;
  is = ap (flat_map f) front.is ∙ flat_map-append f a front.rest;
}

-- what holds of each of a list, holds of each of a front
pub all-front : {A : Type 0} (P : A → Type 0) (a b : List A) → AllByRecursion P (a ++ b) → AllByRecursion P a
all-front P [] b h = tt
all-front P (x ∷ a) b h = (h.0, all-front P a b h.1)

-- ---- two fronts of one list

pub same_head : {A : Type 0} (x y : A) (xs ys : List A) → x ∷ xs ≡ y ∷ ys → x ≡ y
same_head x y xs ys e = cc

pub same_tail : {A : Type 0} (x y : A) (xs ys : List A) → x ∷ xs ≡ y ∷ ys → xs ≡ ys
same_tail x y xs ys e = cc

pub longer_front : {A : Type 0} (x y : A) {a b : List A} → x ≡ y → IsFront a b → IsFront (x ∷ a) (y ∷ b)
longer_front x y {a = a} same p = record {
  rest = p.rest;
  is = ap (λ t. y ∷ t) p.is ∙ ap (λ t. t ∷ (a ++ p.rest)) (sym same);
}

compare : {A : Type 0} (a b r s : List A) → a ++ r ≡ b ++ s → IsFront a b ⊎ IsFront b a
compare [] b r s e = inl (front-nil b)
compare (x ∷ a) [] r s e = inr (front-nil (x ∷ a))
compare (x ∷ a) (y ∷ b) r s e =
    let head : x ≡ y = same_head x y (a ++ r) (b ++ s) e in
    elim (compare a b r s (same_tail x y (a ++ r) (b ++ s) e)) [
      | inl p ↦ inl (longer_front x y head p)
      | inr p ↦ inr (longer_front y x (sym head) p)
    ]

-- one is a front of the other
pub front-compare : {A : Type 0} {a b c : List A} → IsFront a c → IsFront b c → IsFront a b ⊎ IsFront b a
front-compare {a = a} {b = b} p q = compare a b p.rest q.rest (sym p.is ∙ q.is)

-- no front is shorter than its whole
pub front-whole : {A : Type 0} {a b : List A} → IsFront a b → length b ≤ length a → a ≡ b
front-whole {a = a} {b = b} p le =
    let nothing : p.rest ≡ [] = nil_from_length p.rest (omega (arith, ap length p.is, length-append a p.rest)) in
    sym (p.is ∙ ap (λ t. a ++ t) nothing ∙ append-nil a)

-- the shorter one is a front of the longer
pub front-shorter : {A : Type 0} {a b c : List A} → IsFront a c → IsFront b c → length a ≤ length b → IsFront a b
front-shorter {a = a} {b = b} p q le =
    elim (front-compare p q) [
      | inl front ↦ front
      | inr front ↦ subst (λ x. IsFront x b) (front-whole front le) (front-refl b)
    ]

-- fronts of one another are one
pub front-same : {A : Type 0} {a b : List A} → IsFront a b → IsFront b a → b ≡ a
front-same f g = sym (front-whole f (front-length g))

-- one of two is a front of the other, and they are as long
pub either-same : {A : Type 0} {a b : List A} → IsFront a b ⊎ IsFront b a → length a ≡ length b → a ≡ b
either-same (inl p) same = front-whole p (omega (arith, same))
either-same (inr p) same = sym (front-whole p (omega (arith, same)))
