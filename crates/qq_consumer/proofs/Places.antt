-- Where a number stands among numbers that rise.
use Rattle.std.proofs.Common.{◌≡◌, ℕ, zero, suc, ◌<◌, ◌≤◌, ◌⊎◌, Bool, true, false, List, [], ◌∷◌, ◌++◌, Some, None, length, get_or, refl, sym, ap, ◌∙◌, subst, inl, inr, arith}
use Rattle.std.specs.Prelude.{nat_lt, find, slice_get, insert, remove}
use Rattle.std.specs.List.{AllByRecursion}
use Rattle.std.specs.List.Sorted.{IsNonDecreasingBy}
use Rattle.std.proofs.lemmas.Bool.{false≢true, cases_Bool, cond-true, cond-false, cond_both, ltb-true, ltb-false, ne_eqb}
use Rattle.qq_base.proofs.Lists.{AllByRecursion-append, AllByRecursion-weaker}
use Rattle.qq_consumer.specs.declared.rising.Numbered.{Numbered}
use Rattle.qq_consumer.specs.Numbers.{Rises, AreBelow, IsFree, has_number, with_item, without, place_of, is_at}

module _ {T : Type 0} where
  -- a search's answer is the place
  pub place-is : (number : ℕ) (rows : List (Numbered T)) (i : ℕ) → i ≤ length rows
      → ((k : ℕ) (d : Numbered T) → k < i → nat_lt (get_or rows k d).number number ≡ true)
      → ((k : ℕ) (d : Numbered T) → i ≤ k → k < length rows → nat_lt (get_or rows k d).number number ≡ false)
      → i ≡ place_of number rows
  place-is number [] i within front back = omega arith
  place-is number (one ∷ rows) zero within front back =
      sym (cond-false (nat_lt one.number number) (suc (place_of number rows)) 0
      (back 0 one (omega arith) (omega arith)))
  place-is number (one ∷ rows) (suc i) within front back =
      ap suc (place-is number rows i (omega arith) (λ k d lt. front (suc k) d (omega arith))
      (λ k d le long. back (suc k) d (omega arith) (omega arith)))
      ∙ sym (cond-true (nat_lt one.number number) (suc (place_of number rows)) 0
      (front 0 one (omega arith)))

  pub above : (m n : ℕ) (rows : List (Numbered T)) → m ≤ n → AllByRecursion (λ (one : Numbered T). n < one.number) rows
      → AllByRecursion (λ (one : Numbered T). m < one.number) rows
  above m n rows le each =
      AllByRecursion-weaker (λ (one : Numbered T). n < one.number) (λ (one : Numbered T). m < one.number)
      (λ one lt. omega arith) rows each

  find-above : (number : ℕ) (rows : List (Numbered T)) → AllByRecursion (λ (one : Numbered T). number < one.number) rows
      → find (has_number {T = T} number) rows ≡ None
  find-above number [] each = refl
  find-above number (one ∷ rows) each =
      cond-false (has_number number one) (Some one) (find (has_number {T = T} number) rows)
      (ne_eqb one.number number (λ e. absurd (omega (arith, each.0)))) ∙ find-above number rows each.1

  without-above : (number : ℕ) (rows : List (Numbered T))
      → AllByRecursion (λ (one : Numbered T). number < one.number) rows → without number rows ≡ rows
  without-above number [] each = refl
  without-above number (one ∷ rows) each =
      cond-false (has_number number one) rows (one ∷ without number rows)
      (ne_eqb one.number number (λ e. absurd (omega (arith, each.0))))
      ∙ ap (λ (xs : List (Numbered T)). one ∷ xs) (without-above number rows each.1)

  -- what is known of a number by the place where it would stand
  pub record IsPlaced (number place : ℕ) (rows : List (Numbered T)) : Type 0 where
    pub found : is_at number place rows ≡ true → find (has_number {T = T} number) rows ≡ slice_get rows place
    pub removed : is_at number place rows ≡ true → without number rows ≡ remove rows place
    pub absent : is_at number place rows ≡ false → find (has_number {T = T} number) rows ≡ None
    pub stays : is_at number place rows ≡ false → without number rows ≡ rows

  pub placed : (number : ℕ) (rows : List (Numbered T)) → Rises rows → IsPlaced number (place_of number rows) rows
  placed number [] rising = record {
    found = λ there. refl;
    removed = λ there. absurd (false≢true there);
    absent = λ none. refl;
    stays = λ none. refl;
  }
  placed number (one ∷ rows) rising = by (cases_Bool (nat_lt one.number number)) (placed number rows rising.1)
    where
      has : Numbered T → Bool
      has = has_number number

      later : one.number < number → IsPlaced number (place_of number rows) rows
          → IsPlaced number (suc (place_of number rows)) (one ∷ rows)
      later lt rest =
          let fails : has one ≡ false = ne_eqb one.number number (λ e. absurd (omega arith)) in
          let skips : find has (one ∷ rows) ≡ find has rows = cond-false (has one) (Some one) (find has rows) fails in
          let keeps : without number (one ∷ rows) ≡ one ∷ without number rows =
          cond-false (has one) rows (one ∷ without number rows) fails in
          record {
            found = λ there. skips ∙ rest.found there;
            removed = λ there. keeps ∙ ap (λ (xs : List (Numbered T)). one ∷ xs) (rest.removed there);
            absent = λ none. skips ∙ rest.absent none;
            stays = λ none. keeps ∙ ap (λ (xs : List (Numbered T)). one ∷ xs) (rest.stays none);
          }

      here : number ≤ one.number → IsPlaced number zero (one ∷ rows)
      here le =
          let beyond : AllByRecursion (λ (other : Numbered T). number < other.number) rows =
          above number one.number rows le rising.0 in
          record {
            found = λ there. cond-true (has one) (Some one) (find has rows) there;
            removed = λ there. cond-true (has one) rows (one ∷ without number rows) there;
            absent = λ none. cond-false (has one) (Some one) (find has rows) none ∙ find-above number rows beyond;
            stays =
                λ none.
                cond-false (has one) rows (one ∷ without number rows) none
                ∙ ap (λ (xs : List (Numbered T)). one ∷ xs) (without-above number rows beyond);
          }

      by : (nat_lt one.number number ≡ true) ⊎ (nat_lt one.number number ≡ false)
          → IsPlaced number (place_of number rows) rows → IsPlaced number (place_of number (one ∷ rows)) (one ∷ rows)
      by (inl less) rest =
          subst (λ n. IsPlaced number n (one ∷ rows))
          (sym (cond-true (nat_lt one.number number) (suc (place_of number rows)) 0 less))
          (later (ltb-true one.number number less) rest)
      by (inr more) rest =
          subst (λ n. IsPlaced number n (one ∷ rows))
          (sym (cond-false (nat_lt one.number number) (suc (place_of number rows)) 0 more))
          (here (ltb-false one.number number more))

  pub rises-push : (rows : List (Numbered T)) (one : Numbered T) → Rises rows → AreBelow one.number rows
      → Rises (rows ++ one ∷ [])
  rises-push [] one rising below = (tt, tt)
  rises-push (first ∷ rows) one rising below = (
    AllByRecursion-append (λ (other : Numbered T). first.number < other.number) rows (one ∷ []) rising.0 (below.0, tt),
    rises-push rows one rising.1 below.1,
  )

  pub each-without : (P : Numbered T → Type 0) (number : ℕ) (rows : List (Numbered T)) → AllByRecursion P rows
      → AllByRecursion P (without number rows)
  each-without P number [] each = tt
  each-without P number (one ∷ rows) each =
      cond_both (has_number number one) rows (one ∷ without number rows) (AllByRecursion P) (λ _. each.1)
      (λ _. (each.0, each-without P number rows each.1))

  pub rises-without : (number : ℕ) (rows : List (Numbered T)) → Rises rows → Rises (without number rows)
  rises-without number [] rising = tt
  rises-without number (one ∷ rows) rising =
      cond_both (has_number number one) rows (one ∷ without number rows) (λ (xs : List (Numbered T)). Rises xs)
      (λ _. rising.1) (λ _. (
        each-without (λ (other : Numbered T). one.number < other.number) number rows rising.0,
        rises-without number rows rising.1,
      ))

  -- as std's searches see rising numbers
  all-at : (P : Numbered T → Type 0) (rows : List (Numbered T)) (i : ℕ) (d : Numbered T) → AllByRecursion P rows
      → i < length rows → P (get_or rows i d)
  all-at P [] i d each within = absurd (omega arith)
  all-at P (one ∷ rows) zero d each within = each.0
  all-at P (one ∷ rows) (suc i) d each within = all-at P rows i d each.1 (omega arith)

  pub rises-nondecreasing : (rows : List (Numbered T)) → Rises rows
      → IsNonDecreasingBy (λ (one : Numbered T). one.number) rows
  rises-nondecreasing [] rising i j d le within = absurd (omega arith)
  rises-nondecreasing (one ∷ rows) rising zero zero d le within = omega arith
  rises-nondecreasing (one ∷ rows) rising zero (suc j) d le within =
      let later : one.number < (get_or rows j d).number =
      all-at (λ (other : Numbered T). one.number < other.number) rows j d rising.0 (omega arith) in
      omega arith
  rises-nondecreasing (one ∷ rows) rising (suc i) zero d le within = absurd (omega arith)
  rises-nondecreasing (one ∷ rows) rising (suc i) (suc j) d le within =
      rises-nondecreasing rows rising.1 i j d (omega arith) (omega arith)

  -- a number at the place where a search found it
  pub at-own : (number : ℕ) (rows : List (Numbered T)) (place : ℕ) {b : Bool} → place ≡ place_of number rows
      → is_at number place rows ≡ b → is_at number (place_of number rows) rows ≡ b
  at-own number rows place at is = ap (λ k. is_at number k rows) (sym at) ∙ is

  pub at-within : (number place : ℕ) (rows : List (Numbered T)) → is_at number place rows ≡ true → place < length rows
  at-within number place [] there = absurd (false≢true there)
  at-within number zero (one ∷ rows) there = omega arith
  at-within number (suc place) (one ∷ rows) there = let rest = at-within number place rows there in omega arith

  pub taken-items : (number : ℕ) (rows : List (Numbered T)) (place : ℕ) → Rises rows → place ≡ place_of number rows
      → is_at number place rows ≡ true → without number rows ≡ remove rows place
  taken-items number rows place rising at there =
      (placed number rows rising).removed (at-own number rows place at there) ∙ ap (remove rows) (sym at)

  pub taken-value : (number : ℕ) (rows : List (Numbered T)) (place : ℕ) → Rises rows → place ≡ place_of number rows
      → is_at number place rows ≡ true → slice_get rows place ≡ find (has_number {T = T} number) rows
  taken-value number rows place rising at there =
      ap (slice_get rows) at ∙ sym ((placed number rows rising).found (at-own number rows place at there))

  -- ---- one item more

  pub place-within : (number : ℕ) (rows : List (Numbered T)) → place_of number rows ≤ length rows
  place-within number [] = omega arith
  place-within number (one ∷ rows) =
      let rest = place-within number rows in
      cond_both (nat_lt one.number number) (suc (place_of number rows)) 0 (λ k. k ≤ length (one ∷ rows))
      (λ _. omega (arith, rest)) (λ _. omega arith)

  pub insert-is : (one : Numbered T) (rows : List (Numbered T))
      → insert rows (place_of one.number rows) one ≡ with_item one rows
  insert-is one [] = refl
  insert-is one (first ∷ rows) = by (cases_Bool (nat_lt first.number one.number)) (insert-is one rows)
    where
      by : (nat_lt first.number one.number ≡ true) ⊎ (nat_lt first.number one.number ≡ false)
          → insert rows (place_of one.number rows) one ≡ with_item one rows
          → insert (first ∷ rows) (place_of one.number (first ∷ rows)) one ≡ with_item one (first ∷ rows)
      by (inl less) rest =
          ap (λ k. insert (first ∷ rows) k one)
          (cond-true (nat_lt first.number one.number) (suc (place_of one.number rows)) 0 less)
          ∙ ap (λ (xs : List (Numbered T)). first ∷ xs) rest
          ∙ sym (cond-true (nat_lt first.number one.number) (first ∷ with_item one rows) (one ∷ first ∷ rows) less)
      by (inr more) rest =
          ap (λ k. insert (first ∷ rows) k one)
          (cond-false (nat_lt first.number one.number) (suc (place_of one.number rows)) 0 more)
          ∙ sym (cond-false (nat_lt first.number one.number) (first ∷ with_item one rows) (one ∷ first ∷ rows) more)

  pub each-with : (P : Numbered T → Type 0) (one : Numbered T) (rows : List (Numbered T)) → AllByRecursion P rows
      → P one → AllByRecursion P (with_item one rows)
  each-with P one [] each own = (own, tt)
  each-with P one (first ∷ rows) each own =
      cond_both (nat_lt first.number one.number) (first ∷ with_item one rows) (one ∷ first ∷ rows) (AllByRecursion P)
      (λ _. (each.0, each-with P one rows each.1 own)) (λ _. (own, each))

  pub rises-with : (one : Numbered T) (rows : List (Numbered T)) → Rises rows → IsFree one.number rows
      → Rises (with_item one rows)
  rises-with one [] rising free = (tt, tt)
  rises-with one (first ∷ rows) rising free =
      cond_both (nat_lt first.number one.number) (first ∷ with_item one rows) (one ∷ first ∷ rows)
      (λ (xs : List (Numbered T)). Rises xs)
      (λ less. (
        each-with (λ (other : Numbered T). first.number < other.number) one rows rising.0
            (ltb-true first.number one.number less),
        rises-with one rows rising.1 free.1,
      ))
      (λ more. beyond (ltb-false first.number one.number more))
    where
      beyond : one.number ≤ first.number → Rises (one ∷ first ∷ rows)
      beyond le =
          let less : one.number < first.number = apart le in
          ((less, above one.number first.number rows le rising.0), rising)
        where
          apart : one.number ≤ first.number → one.number < first.number
          apart le' = by (cases_Bool (nat_lt one.number first.number))
            where
              by : (nat_lt one.number first.number ≡ true) ⊎ (nat_lt one.number first.number ≡ false)
                  → one.number < first.number
              by (inl less) = ltb-true one.number first.number less
              by (inr more) =
                  let ge : first.number ≤ one.number = ltb-false one.number first.number more in
                  absurd (free.0 (omega arith))
