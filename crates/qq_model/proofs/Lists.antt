-- More on lists: what is found, and two lists place by place.
use Rattle.std.proofs.Common.{◌≡◌, ℕ, zero, suc, ◌<◌, ◌⊎◌, Bool, true, false, List, [], ◌∷◌, ◌++◌, Some, None, map, length, refl, sym, ap, ◌∙◌, subst, inl, inr, arith}
use Rattle.std.proofs.lemmas.Bool.{cases_Bool, cond-true, cond-false, or_from, or_parts}
use Rattle.std.specs.Prelude.{find, filter, slice_get, slice_index_or}
use Rattle.std.specs.List.{AllByRecursion, AllZip, list_any}
use Rattle.qq_base.proofs.Lists.{In, find-in, list_any-from_in}

pub AllByRecursion-from_in : {A : Type 0} (P : A → Type 0) (xs : List A) → ((x : A) → In x xs → P x)
    → AllByRecursion P xs
AllByRecursion-from_in P [] each = tt
AllByRecursion-from_in P (x ∷ xs) each =
    (each x (inl refl), AllByRecursion-from_in P xs (λ y later. each y (inr later)))

pub In-from_contains : {A : Type 0} (xs : List A) (x : A) (k : ℕ) → k < length xs → slice_index_or xs k x ≡ x → In x
    xs
In-from_contains [] x k within is = absurd (omega arith)
In-from_contains (y ∷ xs) x zero within is = inl (sym is)
In-from_contains (y ∷ xs) x (suc k) within is = inr (In-from_contains xs x k (omega arith) is)

-- what is found stands there
pub list_any-found : {A : Type 0} (test : A → Bool) (xs : List A) (x : A) → find test xs ≡ Some x
    → list_any test xs ≡ true
list_any-found test xs x found = let some = find-in test xs x found in list_any-from_in test x xs some.0 some.1

pub find-filter : {A : Type 0} (test keeps : A → Bool) (xs : List A) (x : A) → find test xs ≡ Some x → keeps x ≡ true
    → find test (filter keeps xs) ≡ Some x
find-filter test keeps [] x found stays = absurd cc
find-filter {A = A} test keeps (y ∷ ys) x found stays =
    by (cases_Bool (test y)) (cases_Bool (keeps y)) (λ found'. find-filter test keeps ys x found' stays)
  where
    by : (test y ≡ true) ⊎ (test y ≡ false) → (keeps y ≡ true) ⊎ (keeps y ≡ false)
        → (find test ys ≡ Some x → find test (filter keeps ys) ≡ Some x) → find test (filter keeps (y ∷ ys)) ≡ Some x
    by (inl passes) keep rest =
        let here : Some y ≡ Some x = sym (cond-true (test y) (Some y) (find test ys) passes) ∙ found in
        let same : y ≡ x = cc in
        ap (find test) (cond-true (keeps y) (y ∷ filter keeps ys) (filter keeps ys) (ap keeps same ∙ stays))
        ∙ cond-true (test y) (Some y) (find test (filter keeps ys)) passes ∙ here
    by (inr fails) (inl keep) rest =
        ap (find test) (cond-true (keeps y) (y ∷ filter keeps ys) (filter keeps ys) keep)
        ∙ cond-false (test y) (Some y) (find test (filter keeps ys)) fails
        ∙ rest (sym (cond-false (test y) (Some y) (find test ys) fails) ∙ found)
    by (inr fails) (inr drop) rest =
        ap (find test) (cond-false (keeps y) (y ∷ filter keeps ys) (filter keeps ys) drop)
        ∙ rest (sym (cond-false (test y) (Some y) (find test ys) fails) ∙ found)

pub find-map : {A : Type 0} (test : A → Bool) (f : A → A) (xs : List A) (x : A) → ((y : A) → test (f y) ≡ test y)
    → find test xs ≡ Some x → find test (map f xs) ≡ Some (f x)
find-map test f [] x same found = absurd cc
find-map {A = A} test f (y ∷ ys) x same found = by (cases_Bool (test y)) (λ found'. find-map test f ys x same found')
  where
    by : (test y ≡ true) ⊎ (test y ≡ false) → (find test ys ≡ Some x → find test (map f ys) ≡ Some (f x))
        → find test (f y ∷ map f ys) ≡ Some (f x)
    by (inl passes) rest =
        let here : Some y ≡ Some x = sym (cond-true (test y) (Some y) (find test ys) passes) ∙ found in
        let is : y ≡ x = cc in
        cond-true (test (f y)) (Some (f y)) (find test (map f ys)) (same y ∙ passes) ∙ ap (λ (z : A). Some (f z)) is
    by (inr fails) rest =
        cond-false (test (f y)) (Some (f y)) (find test (map f ys)) (same y ∙ fails)
        ∙ rest (sym (cond-false (test y) (Some y) (find test ys) fails) ∙ found)

pub find-none : {A : Type 0} (test : A → Bool) (xs : List A) → find test xs ≡ None → list_any test xs ≡ false
find-none test [] none = refl
find-none {A = A} test (x ∷ xs) none = by (cases_Bool (test x)) (λ none'. find-none test xs none')
  where
    by : (test x ≡ true) ⊎ (test x ≡ false) → (find test xs ≡ None → list_any test xs ≡ false)
        → list_any test (x ∷ xs) ≡ false
    by (inl passes) rest =
        let e : Some x ≡ None = sym (cond-true (test x) (Some x) (find test xs) passes) ∙ none in absurd cc
    by (inr fails) rest =
        or_from (test x) (list_any test xs) fails
        (rest (sym (cond-false (test x) (Some x) (find test xs) fails) ∙ none))

pub find-last : {A : Type 0} (test : A → Bool) (xs : List A) (y : A) → list_any test xs ≡ false → test y ≡ true
    → find test (xs ++ y ∷ []) ≡ Some y
find-last test [] y none passes = cond-true (test y) (Some y) None passes
find-last test (x ∷ xs) y none passes =
    let parts = or_parts (test x) (list_any test xs) none in
    cond-false (test x) (Some x) (find test (xs ++ y ∷ [])) parts.0 ∙ find-last test xs y parts.1 passes

-- each row is changed as f changes it
pub AllZip-map_second : {A B : Type 0} (R : A → B → Type 0) (f : B → B) (xs : List A) (ys : List B) → AllZip R xs ys
    → ((x : A) (y : B) → In y ys → R x y → R x (f y)) → AllZip R xs (map f ys)
AllZip-map_second R f [] [] zipped change = tt
AllZip-map_second R f [] (y ∷ ys) zipped change = absurd zipped
AllZip-map_second R f (x ∷ xs) [] zipped change = absurd zipped
AllZip-map_second R f (x ∷ xs) (y ∷ ys) zipped change =
    (change x y (inl refl) zipped.0, AllZip-map_second R f xs ys zipped.1 (λ a b here r. change a b (inr here) r))

pub AllZip-split : {A B : Type 0} (R : A → B → Type 0) (xs ys : List A) (zs : List B) → AllZip R (xs ++ ys) zs
    → (prefix : List B) × (more : List B) × (zs ≡ prefix ++ more) × AllZip R xs prefix
AllZip-split R [] ys zs zipped = ([], zs, refl, tt)
AllZip-split R (x ∷ xs) ys [] zipped = absurd zipped
AllZip-split R (x ∷ xs) ys (z ∷ zs) zipped =
    let rest = AllZip-split R xs ys zs zipped.1 in
    (z ∷ rest.0, rest.1, ap (λ w. z ∷ w) rest.2, (zipped.0, rest.3))

pub AllZip-weaker : {A B : Type 0} (R S : A → B → Type 0) → ((x : A) (y : B) → R x y → S x y)
    → (xs : List A) (ys : List B) → AllZip R xs ys → AllZip S xs ys
AllZip-weaker R S weaker [] [] zipped = tt
AllZip-weaker R S weaker [] (y ∷ ys) zipped = absurd zipped
AllZip-weaker R S weaker (x ∷ xs) [] zipped = absurd zipped
AllZip-weaker R S weaker (x ∷ xs) (y ∷ ys) zipped = (weaker x y zipped.0, AllZip-weaker R S weaker xs ys zipped.1)

pub AllZip-trans : {A : Type 0} (R : A → A → Type 0) → ((x y z : A) → R x y → R y z → R x z) → (xs ys zs : List A)
    → AllZip R xs ys → AllZip R ys zs → AllZip R xs zs
AllZip-trans R trans [] [] [] first second = tt
AllZip-trans R trans [] [] (z ∷ zs) first second = absurd second
AllZip-trans R trans [] (y ∷ ys) zs first second = absurd first
AllZip-trans R trans (x ∷ xs) [] zs first second = absurd first
AllZip-trans R trans (x ∷ xs) (y ∷ ys) [] first second = absurd second
AllZip-trans R trans (x ∷ xs) (y ∷ ys) (z ∷ zs) first second =
    (trans x y z first.0 second.0, AllZip-trans R trans xs ys zs first.1 second.1)

-- of two lists that match, what stands in the second at a place has what matches it in the first
pub AllZip-second : {A B : Type 0} (R : A → B → Type 0) (xs : List A) (ys : List B) (k : ℕ) (y : B) → AllZip R xs ys
    → slice_get ys k ≡ Some y → (x : A) × (slice_get xs k ≡ Some x) × R x y
AllZip-second R [] [] k y zipped found = absurd cc
AllZip-second R [] (b ∷ ys) k y zipped found = absurd zipped
AllZip-second R (a ∷ xs) [] k y zipped found = absurd zipped
AllZip-second R (a ∷ xs) (b ∷ ys) zero y zipped found = let same : b ≡ y = cc in (a, refl, subst (R a) same zipped.0)
AllZip-second R (a ∷ xs) (b ∷ ys) (suc k) y zipped found = AllZip-second R xs ys k y zipped.1 found

-- what stands in two lists end to end stands in the first, or is of the second
pub slice_get-append : {A : Type 0} (xs ys : List A) (k : ℕ) (x : A) → slice_get (xs ++ ys) k ≡ Some x
    → (slice_get xs k ≡ Some x) ⊎ In x ys
slice_get-append {A = A} [] ys k x found = inr (get-in ys k x found)
  where
    get-in : (ys : List A) (k : ℕ) (x : A) → slice_get ys k ≡ Some x → In x ys
    get-in [] k x found = absurd cc
    get-in (y ∷ ys) zero x found = inl cc
    get-in (y ∷ ys) (suc k) x found = inr (get-in ys k x found)
slice_get-append (y ∷ xs) ys zero x found = inl found
slice_get-append (y ∷ xs) ys (suc k) x found = slice_get-append xs ys k x found
