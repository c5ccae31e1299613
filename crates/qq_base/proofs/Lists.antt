-- What stands in a list, and what filters, maps, folds and searches keep of it.
use Rattle.std.proofs.Common.{◌≡◌, ◌⊎◌, Bool, true, false, ◌||◌, cond, List, [], ◌∷◌, ◌++◌, Option, Some, None, map, refl, sym, ap, ◌∙◌, subst, inl, inr}
use Rattle.std.specs.Prelude.{filter, find, fold}
use Rattle.std.specs.List.{AllByRecursion, list_any}
use Rattle.std.proofs.lemmas.Bool.{false≢true, cases_Bool, cond-true, cond-false, cond_both, or_cases, or_left, or_right, or_parts, or_from}

-- an element stands in a list
abbrev pub In : {A : Type 0} → A → List A → Type 0
In x [] = ⊥
In x (y ∷ ys) = (x ≡ y) ⊎ In x ys

-- ---- what holds of each element

pub AllByRecursion-in : {A : Type 0} (P : A → Type 0) (x : A) (xs : List A) → AllByRecursion P xs → In x xs → P x
AllByRecursion-in P x [] each here = absurd here
AllByRecursion-in P x (y ∷ ys) each (inl same) = subst P (sym same) each.0
AllByRecursion-in P x (y ∷ ys) each (inr later) = AllByRecursion-in P x ys each.1 later

pub AllByRecursion-append : {A : Type 0} (P : A → Type 0) (xs ys : List A) → AllByRecursion P xs → AllByRecursion P ys
    → AllByRecursion P (xs ++ ys)
AllByRecursion-append P [] ys first second = second
AllByRecursion-append P (x ∷ xs) ys first second = (first.0, AllByRecursion-append P xs ys first.1 second)

pub AllByRecursion-weaker : {A : Type 0} (P Q : A → Type 0) → ((x : A) → P x → Q x) → (xs : List A)
    → AllByRecursion P xs → AllByRecursion Q xs
AllByRecursion-weaker P Q weaker [] each = tt
AllByRecursion-weaker P Q weaker (x ∷ xs) each = (weaker x each.0, AllByRecursion-weaker P Q weaker xs each.1)

pub AllByRecursion-filter : {A : Type 0} (P : A → Type 0) (passes : A → Bool) (xs : List A) → AllByRecursion P xs
    → AllByRecursion P (filter passes xs)
AllByRecursion-filter P passes [] each = tt
AllByRecursion-filter P passes (x ∷ xs) each =
    let rest = AllByRecursion-filter P passes xs each.1 in
    cond_both (passes x) (x ∷ filter passes xs) (filter passes xs) (AllByRecursion P) (λ _. (each.0, rest))
    (λ _. rest)

pub AllByRecursion-map : {A B : Type 0} (P : A → Type 0) (Q : B → Type 0) (f : A → B) (xs : List A)
    → ((x : A) → P x → Q (f x)) → AllByRecursion P xs → AllByRecursion Q (map f xs)
AllByRecursion-map P Q f [] change each = tt
AllByRecursion-map P Q f (x ∷ xs) change each = (change x each.0, AllByRecursion-map P Q f xs change each.1)

-- ---- where an element stands

pub In-append_left : {A : Type 0} (x : A) (xs ys : List A) → In x xs → In x (xs ++ ys)
In-append_left x [] ys here = absurd here
In-append_left x (y ∷ xs) ys (inl same) = inl same
In-append_left x (y ∷ xs) ys (inr later) = inr (In-append_left x xs ys later)

pub In-append_right : {A : Type 0} (x : A) (xs ys : List A) → In x ys → In x (xs ++ ys)
In-append_right x [] ys here = here
In-append_right x (y ∷ xs) ys here = inr (In-append_right x xs ys here)

pub In-append_cases : {A : Type 0} (x : A) (xs ys : List A) → In x (xs ++ ys) → In x xs ⊎ In x ys
In-append_cases x [] ys here = inr here
In-append_cases x (y ∷ xs) ys (inl same) = inl (inl same)
In-append_cases x (y ∷ xs) ys (inr later) =
    elim (In-append_cases x xs ys later) [ inl a ↦ inl (inr a) | inr b ↦ inr b ]

pub In-map : {A B : Type 0} (f : A → B) (x : A) (xs : List A) → In x xs → In (f x) (map f xs)
In-map f x [] here = absurd here
In-map f x (y ∷ ys) (inl same) = inl (ap f same)
In-map f x (y ∷ ys) (inr later) = inr (In-map f x ys later)

pub In-filter : {A : Type 0} (passes : A → Bool) (x : A) (xs : List A) → In x xs → passes x ≡ true
    → In x (filter passes xs)
In-filter passes x [] here is = absurd here
In-filter passes x (y ∷ ys) (inl same) is =
    subst (In x) (sym (cond-true (passes y) (y ∷ filter passes ys) (filter passes ys) (ap passes (sym same) ∙ is)))
    (inl same)
In-filter passes x (y ∷ ys) (inr later) is =
    let rest = In-filter passes x ys later is in
    cond_both (passes y) (y ∷ filter passes ys) (filter passes ys) (In x) (λ _. inr rest) (λ _. rest)

pub In-filter_passes : {A : Type 0} (passes : A → Bool) (x : A) (xs : List A) → In x (filter passes xs)
    → passes x ≡ true
In-filter_passes passes x [] here = absurd here
In-filter_passes {A = A} passes x (y ∷ ys) here =
    by (passes y) refl (λ later. In-filter_passes passes x ys later) here
  where
    by : (b : Bool) → passes y ≡ b → (In x (filter passes ys) → passes x ≡ true)
        → In x (cond b (y ∷ filter passes ys) (filter passes ys)) → passes x ≡ true
    by true is rest (inl same) = ap passes same ∙ is
    by true is rest (inr later) = rest later
    by false is rest later = rest later

-- ---- what is found

pub find-in : {A : Type 0} (test : A → Bool) (xs : List A) (x : A) → find test xs ≡ Some x → In x xs × (test x ≡ true)
find-in test [] x found = absurd cc
find-in {A = A} test (y ∷ ys) x found =
    elim (cases_Bool (test y)) [
      | inl passes ↦
          let here : Some y ≡ Some x = sym (cond-true (test y) (Some y) (find test ys) passes) ∙ found in
          let same : y ≡ x = cc in
          (inl (sym same), ap test (sym same) ∙ passes)
      | inr fails ↦
          let rest = find-in test ys x (sym (cond-false (test y) (Some y) (find test ys) fails) ∙ found) in
          (inr rest.0, rest.1)
    ]

pub list_any-in : {A : Type 0} (test : A → Bool) (xs : List A) → list_any test xs ≡ true
    → (x : A) × In x xs × (test x ≡ true)
list_any-in test [] any = absurd (false≢true any)
list_any-in test (x ∷ xs) any =
    elim (or_cases (test x) (list_any test xs) any) [
      | inl here ↦ (x, inl refl, here)
      | inr later ↦ let rest = list_any-in test xs later in (rest.0, inr rest.1, rest.2)
    ]

pub list_any-from_in : {A : Type 0} (test : A → Bool) (x : A) (xs : List A) → In x xs → test x ≡ true
    → list_any test xs ≡ true
list_any-from_in test x [] here passes = absurd here
list_any-from_in test x (y ∷ ys) (inl same) passes = or_left (test y) (list_any test ys) (ap test (sym same) ∙ passes)
list_any-from_in test x (y ∷ ys) (inr later) passes =
    or_right (test y) (list_any test ys) (list_any-from_in test x ys later passes)

pub list_any-filter : {A : Type 0} (test passes : A → Bool) (xs : List A) → list_any test xs ≡ false
    → list_any test (filter passes xs) ≡ false
list_any-filter test passes [] none = refl
list_any-filter test passes (x ∷ xs) none =
    let parts = or_parts (test x) (list_any test xs) none in
    let rest = list_any-filter test passes xs parts.1 in
    cond_both (passes x) (x ∷ filter passes xs) (filter passes xs) (λ ys. list_any test ys ≡ false)
    (λ _. or_from (test x) (list_any test (filter passes xs)) parts.0 rest) (λ _. rest)

pub list_any-map : {A : Type 0} (test : A → Bool) (f : A → A) (xs : List A) → ((y : A) → test (f y) ≡ test y)
    → list_any test (map f xs) ≡ list_any test xs
list_any-map test f [] same = refl
list_any-map test f (x ∷ xs) same =
    ap (λ b. b || list_any test (map f xs)) (same x) ∙ ap (λ b. test x || b) (list_any-map test f xs same)

-- ---- filters and maps

pub filter-map : {A : Type 0} (test : A → Bool) (f : A → A) (xs : List A) → ((x : A) → test (f x) ≡ test x)
    → filter test (map f xs) ≡ map f (filter test xs)
filter-map test f [] same = refl
filter-map {A = A} test f (x ∷ xs) same =
    let rest = filter-map test f xs same in
    ap (λ (b : Bool). cond b (f x ∷ filter test (map f xs)) (filter test (map f xs))) (same x) ∙ by (test x) rest
  where
    by : (b : Bool) → filter test (map f xs) ≡ map f (filter test xs)
        → cond b (f x ∷ filter test (map f xs)) (filter test (map f xs)) ≡ map f
        (cond b (x ∷ filter test xs) (filter test xs))
    by true rest = ap (λ (ys : List A). f x ∷ ys) rest
    by false rest = rest

pub filter-swap : {A : Type 0} (p q : A → Bool) (xs : List A) → filter p (filter q xs) ≡ filter q (filter p xs)
filter-swap p q [] = refl
filter-swap {A = A} p q (x ∷ xs) = by (p x) refl (q x) refl (filter-swap p q xs)
  where
    by : (a : Bool) → p x ≡ a → (b : Bool) → q x ≡ b → filter p (filter q xs) ≡ filter q (filter p xs)
        → filter p (cond b (x ∷ filter q xs) (filter q xs)) ≡ filter q (cond a (x ∷ filter p xs) (filter p xs))
    by true pa true qb rest =
        cond-true (p x) (x ∷ filter p (filter q xs)) (filter p (filter q xs)) pa ∙ ap (λ (ys : List A). x ∷ ys) rest
        ∙ sym (cond-true (q x) (x ∷ filter q (filter p xs)) (filter q (filter p xs)) qb)
    by true pa false qb rest = rest ∙ sym (cond-false (q x) (x ∷ filter q (filter p xs)) (filter q (filter p xs)) qb)
    by false pa true qb rest = cond-false (p x) (x ∷ filter p (filter q xs)) (filter p (filter q xs)) pa ∙ rest
    by false pa false qb rest = rest

-- ---- folds

-- what each element keeps, a fold keeps
pub fold-keeps : {A B : Type 0} (I : B → Type 0) (f : B → A → B) → ((b : B) (x : A) → I b → I (f b x))
    → (xs : List A) (b : B) → I b → I (fold f b xs)
fold-keeps I f keeps [] b holds = holds
fold-keeps I f keeps (x ∷ xs) b holds = fold-keeps I f keeps xs (f b x) (keeps b x holds)

-- a fold that keeps its best or takes the element gives an element, of which what each choice shows is true
pub fold-in : {A : Type 0} (better : Option A → A → Option A) (P : A → Type 0)
    → ((best : Option A) (x : A) → (better best x ≡ best) ⊎ ((better best x ≡ Some x) × P x))
    → (xs : List A) (start : Option A) (x : A) → fold better start xs ≡ Some x → (start ≡ Some x) ⊎ (In x xs × P x)
fold-in better P choice [] start x found = inl found
fold-in {A = A} better P choice (y ∷ ys) start x found =
    elim (fold-in better P choice ys (better start y) x found) [
      | inl now ↦
          elim (choice start y) [
            | inl same ↦ inl (sym same ∙ now)
            | inr took ↦
                let e : Some y ≡ Some x = sym took.0 ∙ now in
                let same : y ≡ x = cc in
                inr (inl (sym same), subst P same took.1)
          ]
      | inr later ↦ inr (inr later.0, later.1)
    ]

-- from nothing
pub fold-in_all : {A : Type 0} (better : Option A → A → Option A) (P : A → Type 0)
    → ((best : Option A) (x : A) → (better best x ≡ best) ⊎ ((better best x ≡ Some x) × P x))
    → (xs : List A) (x : A) → fold better None xs ≡ Some x → In x xs × P x
fold-in_all better P choice xs x found =
    elim (fold-in better P choice xs None x found) [
      | inl none ↦ absurd cc
      | inr some ↦ some
    ]
