-- What lists with the same items share.
use Rattle.std.proofs.Common.{◌≡◌, ℕ, ◌+◌, Bool, true, false, cond, List, [], ◌∷◌, ◌++◌, map, refl, sym, ap, ◌∙◌, subst, inl, inr, arith}
use Rattle.std.specs.Prelude.{filter, sum_by}
use Rattle.std.specs.List.{AllByRecursion}
use Rattle.std.proofs.lemmas.List.Sums.{sum_by-cons}
use Rattle.qq_base.proofs.Lists.{In}
use Rattle.qq_parts.specs.Perm.{Perm}
use Rattle.qq_parts.specs.Perm.Perm.{done, skip, swap, join}

pub perm-refl : {A : Type 0} (xs : List A) → Perm xs xs
perm-refl [] = done
perm-refl (x ∷ xs) = skip x xs xs (perm-refl xs)

pub perm-same : {A : Type 0} (xs ys : List A) → xs ≡ ys → Perm xs ys
perm-same {A = A} xs ys same = subst (λ (zs : List A). Perm xs zs) same (perm-refl xs)

pub perm-sym : {A : Type 0} {xs ys : List A} → Perm xs ys → Perm ys xs
perm-sym done = done
perm-sym (skip x xs ys p) = skip x ys xs (perm-sym p)
perm-sym (swap x y xs) = swap y x xs
perm-sym (join xs ys zs p q) = join zs ys xs (perm-sym q) (perm-sym p)

pub perm-in : {A : Type 0} {xs ys : List A} (x : A) → Perm xs ys → In x xs → In x ys
perm-in x done here = here
perm-in x (skip y xs ys p) (inl same) = inl same
perm-in x (skip y xs ys p) (inr later) = inr (perm-in x p later)
perm-in x (swap y z xs) (inl same) = inr (inl same)
perm-in x (swap y z xs) (inr (inl same)) = inl same
perm-in x (swap y z xs) (inr (inr later)) = inr (inr later)
perm-in x (join xs ys zs p q) here = perm-in x q (perm-in x p here)

pub perm-each : {A : Type 0} {xs ys : List A} (P : A → Type 0) → Perm xs ys → AllByRecursion P xs
    → AllByRecursion P ys
perm-each P done each = tt
perm-each P (skip x xs ys p) each = (each.0, perm-each P p each.1)
perm-each P (swap x y xs) each = (each.1.0, (each.0, each.1.1))
perm-each P (join xs ys zs p q) each = perm-each P q (perm-each P p each)

pub perm-map : {A B : Type 0} {xs ys : List A} (f : A → B) → Perm xs ys → Perm (map f xs) (map f ys)
perm-map f done = done
perm-map f (skip x xs ys p) = skip (f x) (map f xs) (map f ys) (perm-map f p)
perm-map f (swap x y xs) = swap (f x) (f y) (map f xs)
perm-map f (join xs ys zs p q) = join (map f xs) (map f ys) (map f zs) (perm-map f p) (perm-map f q)

skip-by : {A : Type 0} (b : Bool) (x : A) (xs ys : List A) → Perm xs ys → Perm (cond b (x ∷ xs) xs) (cond b (x ∷ ys) ys)
skip-by true x xs ys p = skip x xs ys p
skip-by false x xs ys p = p

swap-by : {A : Type 0} (a b : Bool) (x y : A) (xs : List A)
    → Perm (cond a (x ∷ cond b (y ∷ xs) xs) (cond b (y ∷ xs) xs)) (cond b (y ∷ cond a (x ∷ xs) xs) (cond a (x ∷ xs) xs))
swap-by true true x y xs = swap x y xs
swap-by true false x y xs = perm-refl (x ∷ xs)
swap-by false true x y xs = perm-refl (y ∷ xs)
swap-by false false x y xs = perm-refl xs

pub perm-filter : {A : Type 0} {xs ys : List A} (passes : A → Bool) → Perm xs ys
    → Perm (filter passes xs) (filter passes ys)
perm-filter passes done = done
perm-filter passes (skip x xs ys p) =
    skip-by (passes x) x (filter passes xs) (filter passes ys) (perm-filter passes p)
perm-filter passes (swap x y xs) = swap-by (passes x) (passes y) x y (filter passes xs)
perm-filter passes (join xs ys zs p q) =
    join (filter passes xs) (filter passes ys) (filter passes zs) (perm-filter passes p) (perm-filter passes q)

pub perm-sum : {A : Type 0} {xs ys : List A} (f : A → ℕ) → Perm xs ys → sum_by f xs ≡ sum_by f ys
perm-sum f done = refl
perm-sum f (skip x xs ys p) = sum_by-cons f x xs ∙ ap (λ n. f x + n) (perm-sum f p) ∙ sym (sum_by-cons f x ys)
perm-sum f (swap x y xs) =
    let swapped : f x + (f y + sum_by f xs) ≡ f y + (f x + sum_by f xs) = omega arith in
    sum_by-cons f x (y ∷ xs) ∙ ap (λ n. f x + n) (sum_by-cons f y xs) ∙ swapped
    ∙ sym (ap (λ n. f y + n) (sum_by-cons f x xs)) ∙ sym (sum_by-cons f y (x ∷ xs))
perm-sum f (join xs ys zs p q) = perm-sum f p ∙ perm-sum f q

pub perm-left : {A : Type 0} {ys zs : List A} (xs : List A) → Perm ys zs → Perm (xs ++ ys) (xs ++ zs)
perm-left [] p = p
perm-left {ys = ys} {zs = zs} (x ∷ xs) p = skip x (xs ++ ys) (xs ++ zs) (perm-left xs p)

pub perm-right : {A : Type 0} {xs ys : List A} (zs : List A) → Perm xs ys → Perm (xs ++ zs) (ys ++ zs)
perm-right zs done = perm-refl zs
perm-right zs (skip x xs ys p) = skip x (xs ++ zs) (ys ++ zs) (perm-right zs p)
perm-right zs (swap x y xs) = swap x y (xs ++ zs)
perm-right zs (join xs ys ws p q) = join (xs ++ zs) (ys ++ zs) (ws ++ zs) (perm-right zs p) (perm-right zs q)

-- an item in the middle comes to the front
pub perm-middle : {A : Type 0} (xs : List A) (x : A) (ys : List A) → Perm (xs ++ x ∷ ys) (x ∷ (xs ++ ys))
perm-middle [] x ys = perm-refl (x ∷ ys)
perm-middle (y ∷ xs) x ys =
    join (y ∷ (xs ++ x ∷ ys)) (y ∷ x ∷ (xs ++ ys)) (x ∷ y ∷ (xs ++ ys))
    (skip y (xs ++ x ∷ ys) (x ∷ (xs ++ ys)) (perm-middle xs x ys)) (swap y x (xs ++ ys))
