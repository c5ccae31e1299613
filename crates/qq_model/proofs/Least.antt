-- What `least_by` chooses. It has a key and is in the list, nothing there has a lesser key, and what has no key
-- doesn't count.
use Rattle.std.proofs.Common.{◌≡◌, ◌⊎◌, ◌<◌, ◌≤◌, ℕ, Bool, true, false, List, [], ◌∷◌, ◌++◌, Option, Some, None, cond, map, fold, nat_lt, refl, sym, ap, ◌∙◌, subst, inl, inr, arith}
use Rattle.std.proofs.lemmas.Bool.{false≢true, cases_Bool, cond-true, cond-false, cond_both, ltb-true, ltb-false, le-ltb}
use Rattle.std.proofs.lemmas.Option.{none-some}
use Rattle.std.proofs.lemmas.List.Sums.{fold-append}
use Rattle.std.specs.List.{AllByRecursion}
use Rattle.std.specs.Option.{option_and_then, is_some}
use Rattle.qq_model.specs.declared.place.Key.{Key}
use Rattle.qq_model.specs.declared.place.Key.TheVariants.{Front, Back}
use Rattle.qq_model.specs.Choice.{is_lesser, key_less, lesser, least_by}
use Rattle.qq_base.proofs.Lists.{In, AllByRecursion-in, fold-in_all}
use Rattle.qq_model.proofs.Lists.{AllByRecursion-from_in}

-- Orders ---------------------------------------------------------------------------------------------

-- a strict order in which each two keys compare
pub record IsOrder {K : Type 0} (less : K → K → Bool) : Type 0 where
  pub asym : (a b : K) → less a b ≡ true → less b a ≡ false
  pub trans : (a b c : K) → less a b ≡ false → less b c ≡ false → less a c ≡ false

pub not_less-self : {K : Type 0} (less : K → K → Bool) → IsOrder less → (a : K) → less a a ≡ false
not_less-self less order a = elim (cases_Bool (less a a)) [
  | inl h ↦ order.asym a a h
  | inr h ↦ h
]

nat_lt-trans : (a b c : ℕ) → nat_lt a b ≡ false → nat_lt b c ≡ false → nat_lt a c ≡ false
nat_lt-trans a b c first second =
    let p : b ≤ a = ltb-false a b first in
    let q : c ≤ b = ltb-false b c second in
    le-ltb a c (omega arith)

nat_lt-asym : (a b : ℕ) → nat_lt a b ≡ true → nat_lt b a ≡ false
nat_lt-asym a b less = let p : a < b = ltb-true a b less in le-ltb b a (omega arith)

pub nat_lt-order : IsOrder nat_lt
nat_lt-order = record { asym = nat_lt-asym; trans = nat_lt-trans }

key_less-trans : (a b c : Key) → key_less a b ≡ false → key_less b c ≡ false → key_less a c ≡ false
key_less-trans (Front a) (Front b) (Front c) first second = nat_lt-trans a b c first second
key_less-trans (Front a) (Front b) (Back c) first second = absurd (false≢true (sym second))
key_less-trans (Front a) (Back b) c first second = absurd (false≢true (sym first))
key_less-trans (Back a) b (Front c) first second = refl
key_less-trans (Back a) (Front b) (Back c) first second = absurd (false≢true (sym second))
key_less-trans (Back a) (Back b) (Back c) first second = nat_lt-trans a b c first second

key_less-asym : (a b : Key) → key_less a b ≡ true → key_less b a ≡ false
key_less-asym (Front a) (Front b) less = nat_lt-asym a b less
key_less-asym (Front a) (Back b) less = refl
key_less-asym (Back a) (Front b) less = absurd (false≢true less)
key_less-asym (Back a) (Back b) less = nat_lt-asym a b less

pub key_less-order : IsOrder key_less
key_less-order = record { asym = key_less-asym; trans = key_less-trans }

-- no key is the greatest
is_lesser-asym : {K : Type 0} (less : K → K → Bool) → IsOrder less
    → (a b : Option K) → is_lesser less a b ≡ true → is_lesser less b a ≡ false
is_lesser-asym less order None b h = absurd (false≢true h)
is_lesser-asym less order (Some a) None h = refl
is_lesser-asym less order (Some a) (Some b) h = order.asym a b h

is_lesser-trans : {K : Type 0} (less : K → K → Bool) → IsOrder less
    → (a b c : Option K) → is_lesser less a b ≡ false → is_lesser less b c ≡ false → is_lesser less a c ≡ false
is_lesser-trans less order None b c first second = refl
is_lesser-trans less order (Some a) None c first second = absurd (false≢true (sym first))
is_lesser-trans less order (Some a) (Some b) None first second = absurd (false≢true (sym second))
is_lesser-trans less order (Some a) (Some b) (Some c) first second = order.trans a b c first second

pub is_lesser-order : {K : Type 0} (less : K → K → Bool) → IsOrder less → IsOrder (is_lesser less)
is_lesser-order less order = record { asym = is_lesser-asym less order; trans = is_lesser-trans less order }

-- What is chosen -------------------------------------------------------------------------------------

is_lesser-some : {K : Type 0} (less : K → K → Bool) (a b : Option K) → is_lesser less a b ≡ true → is_some a ≡ true
is_lesser-some less None b h = h
is_lesser-some less (Some a) b h = refl

lesser-choice : {A K : Type 0} (less : K → K → Bool) (key : A → Option K) (best : Option A) (x : A)
    → (lesser less key best x ≡ best) ⊎ ((lesser less key best x ≡ Some x) × (is_some (key x) ≡ true))
lesser-choice less key best x =
    let takes = is_lesser less (key x) (option_and_then key best) in
    elim (cases_Bool takes) [
      | inl h ↦ inr (cond-true takes (Some x) best h, is_lesser-some less (key x) _ h)
      | inr h ↦ inl (cond-false takes (Some x) best h)
    ]

-- what is chosen is in the list, and has a key
pub least_by-in : {A K : Type 0} (less : K → K → Bool) (key : A → Option K) (items : List A) (item : A)
    → least_by less key items ≡ Some item → In item items × (is_some (key item) ≡ true)
least_by-in {A = A} less key items item found =
    fold-in_all (lesser less key) (λ (one : A). is_some (key one) ≡ true) (lesser-choice less key) items item found

-- no key of a list is lesser than this one
abbrev pub IsLeast : {A K : Type 0} → (K → K → Bool) → (A → Option K) → List A → Option K → Type 0
IsLeast less key items least = AllByRecursion (λ item. is_lesser less (key item) least ≡ false) items

fold-least : {A K : Type 0} (less : K → K → Bool) (key : A → Option K) → IsOrder less → (xs : List A)
    (start : Option A)
    → let least = option_and_then key (fold (lesser less key) start xs) in
    IsLeast less key xs least × (is_lesser less (option_and_then key start) least ≡ false)
fold-least less key order [] start =
    (tt, not_less-self (is_lesser less) (is_lesser-order less order) (option_and_then key start))
fold-least {A = A} less key order (x ∷ xs) start =
    let best = option_and_then key start in
    let takes = is_lesser less (key x) best in
    let rest = fold-least less key order xs (lesser less key start x) in
    let least = option_and_then key (fold (lesser less key) start (x ∷ xs)) in
    let onward = is_lesser-trans less order in
    elim (cases_Bool takes) [
      | inl h ↦
          let now : is_lesser less (key x) least ≡ false =
          ap (λ o. is_lesser less (option_and_then key o) least) (sym (cond-true takes (Some x) start h)) ∙ rest.1 in
          ((now, rest.0), onward best (key x) least (is_lesser-asym less order (key x) best h) now)
      | inr h ↦
          let now : is_lesser less best least ≡ false =
          ap (λ o. is_lesser less (option_and_then key o) least) (sym (cond-false takes (Some x) start h)) ∙ rest.1 in
          ((onward (key x) best least h now, rest.0), now)
    ]

-- nothing in the list has a lesser key than what is chosen
pub least_by-least : {A K : Type 0} (less : K → K → Bool) (key : A → Option K) → IsOrder less
    → (items : List A) (item : A)
    → least_by less key items ≡ Some item → IsLeast less key items (key item)
least_by-least less key order items item found =
    subst (λ o. IsLeast less key items (option_and_then key o)) found (fold-least less key order items None).0

no_key : {K : Type 0} (less : K → K → Bool) (a : Option K) → is_lesser less a None ≡ false → a ≡ None
no_key less None h = refl
no_key less (Some a) h = absurd (false≢true (sym h))

-- nothing is chosen exactly where nothing has a key
pub least_by-none : {A K : Type 0} (less : K → K → Bool) (key : A → Option K) → IsOrder less → (items : List A)
    → least_by less key items ≡ None → AllByRecursion (λ item. key item ≡ None) items
least_by-none {A = A} less key order items none =
    let least : IsLeast less key items None =
    subst (λ o. IsLeast less key items (option_and_then key o)) none (fold-least less key order items None).0 in
    AllByRecursion-from_in (λ (item : A). key item ≡ None) items
    (λ item here. no_key less (key item)
    (AllByRecursion-in (λ (one : A). is_lesser less (key one) None ≡ false) item items least here))

pub none-least_by : {A K : Type 0} (less : K → K → Bool) (key : A → Option K) (items : List A)
    → AllByRecursion (λ item. key item ≡ None) items → least_by less key items ≡ None
none-least_by {A = A} less key items keyless = by (least_by less key items) refl
  where
    by : (o : Option A) → least_by less key items ≡ o → o ≡ None
    by None is = refl
    by (Some item) is =
        let some = least_by-in less key items item is in
        absurd (false≢true
        (ap is_some (sym (AllByRecursion-in (λ (one : A). key one ≡ None) item items keyless some.0)) ∙ some.1))

-- an item is chosen whose key is less than that of each other one
pub least_by-is : {A K : Type 0} (less : K → K → Bool) (key : A → Option K) → IsOrder less
    → (items : List A) (item : A) (k : K)
    → In item items → key item ≡ Some k
    → AllByRecursion (λ other. (other ≡ item) ⊎ (is_lesser less (key item) (key other) ≡ true)) items
    → least_by less key items ≡ Some item
least_by-is {A = A} less key order items item k here keyed first = by (least_by less key items) refl
  where
    by : (o : Option A) → least_by less key items ≡ o → o ≡ Some item
    by None is =
        let none =
        AllByRecursion-in (λ (one : A). key one ≡ None) item items (least_by-none less key order items is) here in
        absurd (none-some k (sym none ∙ keyed))
    by (Some chosen) is =
        let in' = (least_by-in less key items chosen is).0 in
        elim (AllByRecursion-in (λ (other : A). (other ≡ item) ⊎ (is_lesser less (key item) (key other) ≡ true))
        chosen
        items first in') [
          | inl same ↦ ap (λ (one : A). Some one) same
          | inr lower ↦
              let least = least_by-least less key order items chosen is in
              let not_lower =
              AllByRecursion-in (λ (one : A). is_lesser less (key one) (key chosen) ≡ false) item items least here in
              absurd (false≢true (sym not_lower ∙ lower))
        ]

-- What has no key doesn't count ----------------------------------------------------------------------

lesser-no_key : {A K : Type 0} (less : K → K → Bool) (key : A → Option K) (best : Option A) (item : A)
    → key item ≡ None → lesser less key best item ≡ best
lesser-no_key {A = A} less key best item none =
    cond-false (is_lesser less (key item) (option_and_then key best)) (Some item) best
    (ap (λ o. is_lesser less o (option_and_then key best)) none)

-- it may be added and removed anywhere
pub least_by-insert : {A K : Type 0} (less : K → K → Bool) (key : A → Option K) (xs ys : List A) (item : A)
    → key item ≡ None → least_by less key (xs ++ item ∷ ys) ≡ least_by less key (xs ++ ys)
least_by-insert {A = A} less key xs ys item none =
    fold-append (lesser less key) None xs (item ∷ ys)
    ∙ ap (λ (best : Option A). fold (lesser less key) best ys)
    (lesser-no_key less key (least_by less key xs) item none)
    ∙ sym (fold-append (lesser less key) None xs ys)

fold-map : {A K : Type 0} (less : K → K → Bool) (key : A → Option K) (change : A → A) (xs : List A) (best : Option A)
    → AllByRecursion (λ item. (change item ≡ item) ⊎ ((key item ≡ None) × (key (change item) ≡ None))) xs
    → fold (lesser less key) best (map change xs) ≡ fold (lesser less key) best xs
fold-map less key change [] best each = refl
fold-map {A = A} less key change (x ∷ xs) best each =
    let same : lesser less key best (change x) ≡ lesser less key best x = elim each.0 [
      | inl stays ↦ ap (lesser less key best) stays
      | inr none ↦ lesser-no_key less key best (change x) none.1 ∙ sym (lesser-no_key less key best x none.0)
    ] in
    ap (λ (now : Option A). fold (lesser less key) now (map change xs)) same
    ∙ fold-map less key change xs (lesser less key best x) each.1

-- it may be changed to another that has none
pub least_by-map : {A K : Type 0} (less : K → K → Bool) (key : A → Option K) (change : A → A) (items : List A)
    → AllByRecursion (λ item. (change item ≡ item) ⊎ ((key item ≡ None) × (key (change item) ≡ None))) items
    → least_by less key (map change items) ≡ least_by less key items
least_by-map less key change items each = fold-map less key change items None each

fold-same_keys : {A K : Type 0} (less : K → K → Bool) (key key' : A → Option K) (xs : List A) (best : Option A)
    → AllByRecursion (λ item. key item ≡ key' item) xs → option_and_then key best ≡ option_and_then key' best
    → fold (lesser less key) best xs ≡ fold (lesser less key') best xs
fold-same_keys less key key' [] best same at_best = refl
fold-same_keys {A = A} less key key' (x ∷ xs) best same at_best =
    let takes = is_lesser less (key x) (option_and_then key best) in
    let agree : takes ≡ is_lesser less (key' x) (option_and_then key' best) =
    ap (λ o. is_lesser less o (option_and_then key best)) same.0 ∙ ap (is_lesser less (key' x)) at_best in
    let now : lesser less key best x ≡ lesser less key' best x = ap (λ t. cond t (Some x) best) agree in
    let at_now : option_and_then key (lesser less key best x) ≡ option_and_then key' (lesser less key best x) =
    cond_both takes (Some x) best (λ (o : Option A). option_and_then key o ≡ option_and_then key' o)
    (λ _. same.0) (λ _. at_best) in
    fold-same_keys less key key' xs (lesser less key best x) same.1 at_now
    ∙ ap (λ (o : Option A). fold (lesser less key') o xs) now

-- keys that agree at each item choose the same
pub least_by-same_keys : {A K : Type 0} (less : K → K → Bool) (key key' : A → Option K) (items : List A)
    → AllByRecursion (λ item. key item ≡ key' item) items → least_by less key items ≡ least_by less key' items
least_by-same_keys less key key' items same = fold-same_keys less key key' items None same refl
