-- A rising list: where a key stands, what is asked of it there, and a value put in the place of its key's.
use Rattle.std.proofs.Common.{◌≡◌, ℕ, zero, suc, ◌<◌, ◌≤◌, Bool, true, false, cond, ◌||◌, List, [], ◌∷◌, ◌++◌, length, get_or, refl, sym, ap, ◌∙◌, subst, inl, inr, arith}
use Rattle.std.specs.Prelude.{nat_eq, nat_lt, filter, slice_get, insert, slice_set}
use Rattle.std.specs.List.{AllByRecursion, list_any}
use Rattle.std.specs.List.Sorted.{IsNonDecreasingBy, IsPartitionPoint}
use Rattle.std.specs.Option.{option_map_or}
use Rattle.std.proofs.lemmas.Bool.{cases_Bool, cond-true, cond-false, cond_both, lt-ltb, le-ltb, ltb-true, ltb-false, eqb-true, eq-eqb, ne_eqb, or_from, cases_order}
use Rattle.qq_base.proofs.Lists.{AllByRecursion-weaker, AllByRecursion-filter, AllByRecursion-append}
use Rattle.qq_sessions.specs.Rising.{Rises, place_of, is_at, put_by, number_key}

-- ---- lists

all-at : {A : Type 0} (P : A → Type 0) (xs : List A) (i : ℕ) (d : A) → AllByRecursion P xs → i < length xs
    → P (get_or xs i d)
all-at P [] i d each within = absurd (omega arith)
all-at P (x ∷ xs) zero d each within = each.0
all-at P (x ∷ xs) (suc i) d each within = all-at P xs i d each.1 (omega arith)

filter-none : {A : Type 0} (p : A → Bool) (xs : List A) → AllByRecursion (λ x. p x ≡ false) xs → filter p xs ≡ []
filter-none p [] none = refl
filter-none p (x ∷ xs) none = cond-false (p x) (x ∷ filter p xs) (filter p xs) none.0 ∙ filter-none p xs none.1

filter-all : {A : Type 0} (p : A → Bool) (xs : List A) → AllByRecursion (λ x. p x ≡ true) xs → filter p xs ≡ xs
filter-all p [] all = refl
filter-all {A = A} p (x ∷ xs) all =
    cond-true (p x) (x ∷ filter p xs) (filter p xs) all.0 ∙ ap (λ (ys : List A). x ∷ ys) (filter-all p xs all.1)

passing : {A : Type 0} (p : A → Bool) (xs : List A) → AllByRecursion (λ x. p x ≡ true) (filter p xs)
passing p [] = tt
passing {A = A} p (x ∷ xs) =
    elim (cases_Bool (p x)) [
      | inl passes ↦
          subst (AllByRecursion (λ y. p y ≡ true)) (sym (cond-true (p x) (x ∷ filter p xs) (filter p xs) passes))
          (passes, passing p xs)
      | inr fails ↦
          subst (AllByRecursion (λ y. p y ≡ true)) (sym (cond-false (p x) (x ∷ filter p xs) (filter p xs) fails))
          (passing p xs)
    ]

any-none : {A : Type 0} (p : A → Bool) (xs : List A) → AllByRecursion (λ x. p x ≡ false) xs → list_any p xs ≡ false
any-none p [] none = refl
any-none p (x ∷ xs) none = or_from (p x) (list_any p xs) none.0 (any-none p xs none.1)

-- what passes before a place and nowhere behind it is counted by that place
counted : {A : Type 0} (p : A → Bool) (xs : List A) (i : ℕ) → i ≤ length xs
    → ((k : ℕ) (d : A) → k < i → p (get_or xs k d) ≡ true)
    → ((k : ℕ) (d : A) → i ≤ k → k < length xs → p (get_or xs k d) ≡ false) → i ≡ length (filter p xs)
counted p [] i within front back = omega arith
counted {A = A} p (x ∷ xs) zero within front back =
    counted p xs zero (omega arith) (λ k d lt. absurd (omega arith)) (λ k d le lt. back (suc k) d (omega arith) (omega arith))
    ∙ sym (ap (λ (ys : List A). length ys) (cond-false (p x) (x ∷ filter p xs) (filter p xs) (back 0 x (omega arith) (omega arith))))
counted {A = A} p (x ∷ xs) (suc i) within front back =
    ap suc (counted p xs i (omega arith) (λ k d lt. front (suc k) d (omega arith)) (λ k d le lt. back (suc k) d (omega arith) (omega arith)))
    ∙ sym (ap (λ (ys : List A). length ys) (cond-true (p x) (x ∷ filter p xs) (filter p xs) (front 0 x (omega arith))))

-- ---- rising lists

pub rises-nondecreasing : {A : Type 0} (key : A → ℕ) (xs : List A) → Rises key xs → IsNonDecreasingBy key xs
rises-nondecreasing key [] rises i j d le within = absurd (omega arith)
rises-nondecreasing key (x ∷ xs) rises zero zero d le within = omega arith
rises-nondecreasing key (x ∷ xs) rises zero (suc j) d le within =
    let later : key x < key (get_or xs j d) = all-at (λ y. key x < key y) xs j d rises.0 (omega arith) in omega arith
rises-nondecreasing key (x ∷ xs) rises (suc i) zero d le within = absurd (omega arith)
rises-nondecreasing key (x ∷ xs) rises (suc i) (suc j) d le within =
    rises-nondecreasing key xs rises.1 i j d (omega arith) (omega arith)

-- a search's answer is the place
pub place-from_partition : {A : Type 0} (key : A → ℕ) (at : ℕ) (xs : List A) (i : ℕ) → i ≤ length xs
    → IsPartitionPoint (λ y. nat_lt (key y) at ≡ true) (λ y. nat_lt (key y) at ≡ false) xs i → i ≡ place_of key at xs
place-from_partition key at xs i within parts =
    counted (λ x. nat_lt (key x) at) xs i within (λ k d lt. parts.0 k d (omega arith) lt) parts.1

above : {A : Type 0} (key : A → ℕ) (at n : ℕ) (xs : List A) → at ≤ n → AllByRecursion (λ y. n < key y) xs
    → AllByRecursion (λ y. at < key y) xs
above key at n xs le each = AllByRecursion-weaker (λ y. n < key y) (λ y. at < key y) (λ y lt. omega arith) xs each

none-below : {A : Type 0} (key : A → ℕ) (at : ℕ) (xs : List A) → AllByRecursion (λ y. at < key y) xs
    → filter (λ x. nat_lt (key x) at) xs ≡ []
none-below key at xs each =
    filter-none (λ x. nat_lt (key x) at) xs
    (AllByRecursion-weaker (λ y. at < key y) (λ y. nat_lt (key y) at ≡ false)
    (λ y lt. le-ltb (key y) at (omega arith)) xs each)

all-above : {A : Type 0} (key : A → ℕ) (at : ℕ) (xs : List A) → AllByRecursion (λ y. at < key y) xs
    → filter (λ x. nat_lt at (key x)) xs ≡ xs
all-above key at xs each =
    filter-all (λ x. nat_lt at (key x)) xs
    (AllByRecursion-weaker (λ y. at < key y) (λ y. nat_lt at (key y) ≡ true) (λ y lt. lt-ltb at (key y) lt) xs each)

-- where only what has one key may pass a test, what stands at its place passes or nothing does
pub any-at_place : {A : Type 0} (key : A → ℕ) (at : ℕ) (p : A → Bool) (xs : List A)
    → ((x : A) → (key x ≡ at → ⊥) → p x ≡ false) → Rises key xs
    → list_any p xs ≡ option_map_or p (slice_get xs (place_of key at xs)) false
any-at_place key at p [] only rises = refl
any-at_place {A = A} key at p (x ∷ xs) only rises =
    let below : A → Bool = λ y. nat_lt (key y) at in
    let here : ℕ → Bool = λ n. option_map_or p (slice_get (x ∷ xs) n) false in
    elim (cases_Bool (below x)) [
      | inl less ↦
          let lt : key x < at = ltb-true (key x) at less in
          or_from_left (p x) (list_any p xs) (only x (λ e. absurd (omega arith)))
          ∙ any-at_place key at p xs only rises.1
          ∙ sym (ap here (ap (λ (ys : List A). length ys)
          (cond-true (below x) (x ∷ filter below xs) (filter below xs) less)))
      | inr more ↦
          let le : at ≤ key x = ltb-false (key x) at more in
          let later : AllByRecursion (λ y. at < key y) xs = above key at (key x) xs le rises.0 in
          let none : list_any p xs ≡ false =
          any-none p xs (AllByRecursion-weaker (λ y. at < key y) (λ y. p y ≡ false)
          (λ y lt. only y (λ e. absurd (omega arith))) xs later) in
          or_false_right (p x) (list_any p xs) none
          ∙ sym (ap here (ap (λ (ys : List A). length ys)
          (cond-false (below x) (x ∷ filter below xs) (filter below xs) more ∙ none-below key at xs later)))
    ]
  where
    or_from_left : (a b : Bool) → a ≡ false → (a || b) ≡ b
    or_from_left a b e = ap (λ (c : Bool). c || b) e

    or_false_right : (a b : Bool) → b ≡ false → (a || b) ≡ a
    or_false_right true b e = refl
    or_false_right false b e = e

-- ---- a value in the place of its key's

-- where nothing has the key, the value goes in at its place; where something has it, it takes that place
pub put-at_place : {A : Type 0} (key : A → ℕ) (new : A) (xs : List A) → Rises key xs
    → put_by key new xs
    ≡ cond (is_at key (key new) (place_of key (key new) xs) xs) (slice_set xs (place_of key (key new) xs) new)
    (insert xs (place_of key (key new) xs) new)
put-at_place key new [] rises = refl
put-at_place {A = A} key new (x ∷ xs) rises =
    let at : ℕ = key new in
    let below : A → Bool = λ y. nat_lt (key y) at in
    let beyond : A → Bool = λ y. nat_lt at (key y) in
    let put : ℕ → List A = λ n. cond (is_at key at n (x ∷ xs))
    (slice_set (x ∷ xs) n new) (insert (x ∷ xs) n new) in
    elim (cases_order (key x) at) [
      | inl same ↦
          let later : AllByRecursion (λ y. at < key y) xs = above key at (key x) xs (omega arith) rises.0 in
          let at_front : place_of key at (x ∷ xs) ≡ 0 =
          ap (λ (ys : List A). length ys) (cond-false (below x) (x ∷ filter below xs) (filter below xs)
          (le-ltb (key x) at (omega arith)) ∙ none-below key at xs later) in
          let front : filter below (x ∷ xs) ≡ [] =
          cond-false (below x) (x ∷ filter below xs) (filter below xs) (le-ltb (key x) at (omega arith))
          ∙ none-below key at xs later in
          let back : filter beyond (x ∷ xs) ≡ xs =
          cond-false (beyond x) (x ∷ filter beyond xs) (filter beyond xs) (le-ltb at (key x) (omega arith))
          ∙ all-above key at xs later in
          ap (λ (ys : List A). ys ++ new ∷ filter beyond (x ∷ xs)) front ∙ ap (λ (ys : List A). new ∷ ys) back
          ∙ sym (cond-true (nat_eq (key x) at) (new ∷ xs) (new ∷ x ∷ xs) (eq-eqb (key x) at same))
          ∙ sym (ap put at_front)
      | inr other ↦ elim other [
        | inl less ↦
            let place : ℕ = place_of key at xs in
            ap (λ (ys : List A). ys ++ new ∷ filter beyond (x ∷ xs))
            (cond-true (below x) (x ∷ filter below xs) (filter below xs) (lt-ltb (key x) at less))
            ∙ ap (λ (ys : List A). x ∷ (filter below xs ++ new ∷ ys))
            (cond-false (beyond x) (x ∷ filter beyond xs) (filter beyond xs) (le-ltb at (key x) (omega arith)))
            ∙ ap (λ (ys : List A). x ∷ ys) (put-at_place key new xs rises.1)
            ∙ into x (is_at key at (place_of key at xs) xs) (slice_set xs place new) (insert xs place new)
            ∙ sym (ap put (ap (λ (ys : List A). length ys)
            (cond-true (below x) (x ∷ filter below xs) (filter below xs) (lt-ltb (key x) at less))))
        | inr more ↦
            let later : AllByRecursion (λ y. at < key y) xs = above key at (key x) xs (omega arith) rises.0 in
            let front : filter below (x ∷ xs) ≡ [] =
            cond-false (below x) (x ∷ filter below xs) (filter below xs) (le-ltb (key x) at (omega arith))
            ∙ none-below key at xs later in
            let back : filter beyond (x ∷ xs) ≡ x ∷ xs =
            cond-true (beyond x) (x ∷ filter beyond xs) (filter beyond xs) (lt-ltb at (key x) more)
            ∙ ap (λ (ys : List A). x ∷ ys) (all-above key at xs later) in
            ap (λ (ys : List A). ys ++ new ∷ filter beyond (x ∷ xs)) front ∙ ap (λ (ys : List A). new ∷ ys) back
            ∙ sym (cond-false (nat_eq (key x) at) (new ∷ xs) (new ∷ x ∷ xs)
            (ne_eqb (key x) at (λ e. absurd (omega arith))))
            ∙ sym (ap put (ap (λ (ys : List A). length ys) front))
      ]
    ]
  where
    into : (y : A) (b : Bool) (ys zs : List A) → y ∷ cond b ys zs ≡ cond b (y ∷ ys) (y ∷ zs)
    into y true ys zs = refl
    into y false ys zs = refl

rises-filter : {A : Type 0} (key : A → ℕ) (p : A → Bool) (xs : List A) → Rises key xs → Rises key (filter p xs)
rises-filter key p [] rises = tt
rises-filter key p (x ∷ xs) rises =
    let rest = rises-filter key p xs rises.1 in
    cond_both (p x) (x ∷ filter p xs) (filter p xs) (Rises key)
    (λ _. (AllByRecursion-filter (λ y. key x < key y) p xs rises.0, rest)) (λ _. rest)

rises-join : {A : Type 0} (key : A → ℕ) (xs ys : List A) → Rises key xs → Rises key ys
    → AllByRecursion (λ x. AllByRecursion (λ y. key x < key y) ys) xs → Rises key (xs ++ ys)
rises-join key [] ys first second apart = second
rises-join key (x ∷ xs) ys first second apart =
    (AllByRecursion-append (λ y. key x < key y) xs ys first.0 apart.0, rises-join key xs ys first.1 second apart.1)

pub rises-put : {A : Type 0} (key : A → ℕ) (new : A) (xs : List A) → Rises key xs → Rises key (put_by key new xs)
rises-put {A = A} key new xs rises =
    let at : ℕ = key new in
    let below : A → Bool = λ y. nat_lt (key y) at in
    let beyond : A → Bool = λ y. nat_lt at (key y) in
    let later : AllByRecursion (λ y. at < key y) (filter beyond xs) =
    AllByRecursion-weaker (λ y. beyond y ≡ true) (λ y. at < key y) (λ y passes. ltb-true at (key y) passes)
    (filter beyond xs) (passing beyond xs) in
    rises-join key (filter below xs) (new ∷ filter beyond xs) (rises-filter key below xs rises)
    (later, rises-filter key beyond xs rises)
    (AllByRecursion-weaker (λ x. below x ≡ true) (λ x. AllByRecursion (λ y. key x < key y) (new ∷ filter beyond xs))
    (λ x passes. (ltb-true (key x) at passes, above key (key x) at (filter beyond xs) (lt-le x passes) later))
    (filter below xs) (passing below xs))
  where
    lt-le : (x : A) → nat_lt (key x) (key new) ≡ true → key x ≤ key new
    lt-le x passes = let lt : key x < key new = ltb-true (key x) (key new) passes in omega arith

-- a number in its own place changes nothing
pub set-same : (number place : ℕ) (xs : List ℕ) → is_at number_key number place xs ≡ true → slice_set xs place number ≡ xs
set-same number place [] there = refl
set-same number zero (x ∷ xs) there = ap (λ (y : ℕ). y ∷ xs) (sym (eqb-true x number there))
set-same number (suc place) (x ∷ xs) there = ap (λ (ys : List ℕ). x ∷ ys) (set-same number place xs there)

-- the same at a place that is known to be the key's
pub put-there : {A : Type 0} (key : A → ℕ) (new : A) (xs : List A) (place : ℕ) → Rises key xs
    → place ≡ place_of key (key new) xs → is_at key (key new) place xs ≡ true → slice_set xs place new ≡ put_by key new xs
put-there key new xs place rises is there =
    let own : ℕ = place_of key (key new) xs in
    ap (λ (n : ℕ). slice_set xs n new) is
    ∙ sym (put-at_place key new xs rises ∙ cond-true (is_at key (key new) own xs) (slice_set xs own new)
    (insert xs own new) (ap (λ (n : ℕ). is_at key (key new) n xs) (sym is) ∙ there))

pub put-absent : {A : Type 0} (key : A → ℕ) (new : A) (xs : List A) (place : ℕ) → Rises key xs
    → place ≡ place_of key (key new) xs → is_at key (key new) place xs ≡ false → insert xs place new ≡ put_by key new xs
put-absent key new xs place rises is absent =
    let own : ℕ = place_of key (key new) xs in
    ap (λ (n : ℕ). insert xs n new) is
    ∙ sym (put-at_place key new xs rises ∙ cond-false (is_at key (key new) own xs) (slice_set xs own new)
    (insert xs own new) (ap (λ (n : ℕ). is_at key (key new) n xs) (sym is) ∙ absent))
