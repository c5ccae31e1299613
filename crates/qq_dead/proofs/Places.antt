-- Where a number stands among numbers that rise, and what the worker was given of them.
use Rattle.std.proofs.Common.{◌≡◌, ℕ, zero, suc, ◌+◌, ◌-◌, ◌<◌, ◌≤◌, ◌⊎◌, Bool, true, false, not, ◌&&◌, cond, List, [], ◌∷◌, ◌++◌, Option, Some, None, length, get_or, refl, sym, ap, ◌∙◌, subst, inl, inr, arith}
use Rattle.std.specs.Prelude.{nat_eq, nat_lt, nat_le, filter, find, slice_get, remove}
use Rattle.std.specs.List.{AllByRecursion}
use Rattle.std.specs.List.Sorted.{IsNonDecreasingBy}
use Rattle.std.proofs.lemmas.Bool.{false≢true, cases_Bool, cond-true, cond-false, cond_both, lt-ltb, le-ltb, ltb-true, ltb-false, le-leb, lt-leb, leb-true, leb-false, ne_eqb, and_parts}
use Rattle.std.proofs.lemmas.List.Sums.{sum_by-cons}
use Rattle.qq_base.proofs.Lists.{AllByRecursion-append, AllByRecursion-filter, AllByRecursion-weaker}
use Rattle.qq_dead.specs.declared.row.DeadRow.{DeadRow}
use Rattle.qq_entry.specs.declared.message.Reason.{Reason}
use Rattle.qq_entry.specs.declared.message.ReadyRow.{ReadyRow}
use Rattle.qq_model.specs.declared.TheConstants.{MOST_GIVEN}
use Rattle.qq_dead.specs.Letters.{Letters, may_give, next_offer, may_settle, settled, settle, letters_of, AreNumbered, IsSettledAt, SettlesNothing, is_given, given_count, next_dead, has_number, place_of, is_at, Rises, IsDrawn, SplitsAt}

-- A place ---------------------------------------------------------------------------------------------

-- a search's answer is the place
pub place-is : (number : ℕ) (rows : List DeadRow) (i : ℕ) → i ≤ length rows
    → ((k : ℕ) (d : DeadRow) → k < i → nat_lt (get_or rows k d).number number ≡ true)
    → ((k : ℕ) (d : DeadRow) → i ≤ k → k < length rows → nat_lt (get_or rows k d).number number ≡ false)
    → i ≡ place_of number rows
place-is number [] i within front back = omega arith
place-is number (one ∷ rows) zero within front back =
    sym (cond-false (nat_lt one.number number) (suc (place_of number rows)) 0 (back 0 one (omega arith) (omega arith)))
place-is number (one ∷ rows) (suc i) within front back =
    ap suc (place-is number rows i (omega arith) (λ k d lt. front (suc k) d (omega arith))
    (λ k d le long. back (suc k) d (omega arith) (omega arith)))
    ∙ sym (cond-true (nat_lt one.number number) (suc (place_of number rows)) 0
    (front 0 one (omega arith)))

above : (m n : ℕ) (rows : List DeadRow) → m ≤ n → AllByRecursion (λ (one : DeadRow). n < one.number) rows
    → AllByRecursion (λ (one : DeadRow). m < one.number) rows
above m n rows le each =
    AllByRecursion-weaker (λ (one : DeadRow). n < one.number) (λ (one : DeadRow). m < one.number)
    (λ one lt. omega arith) rows each

find-above : (number : ℕ) (rows : List DeadRow) → AllByRecursion (λ (one : DeadRow). number < one.number) rows
    → find (has_number number) rows ≡ None
find-above number [] each = refl
find-above number (one ∷ rows) each =
    cond-false (has_number number one) (Some one) (find (has_number number) rows)
    (ne_eqb one.number number (λ e. absurd (omega (arith, each.0)))) ∙ find-above number rows each.1

filter-above : (number : ℕ) (rows : List DeadRow) → AllByRecursion (λ (one : DeadRow). number < one.number) rows
    → filter (λ (one : DeadRow). not (has_number number one)) rows ≡ rows
filter-above number [] each = refl
filter-above number (one ∷ rows) each =
    let stays : DeadRow → Bool = λ other. not (has_number number other) in
    cond-true (stays one) (one ∷ filter stays rows) (filter stays rows)
    (ap not (ne_eqb one.number number (λ e. absurd (omega (arith, each.0)))))
    ∙ ap (λ (xs : List DeadRow). one ∷ xs) (filter-above number rows each.1)

-- what is known of a number by the place where it would stand
pub record IsPlaced (number place : ℕ) (rows : List DeadRow) : Type 0 where
  pub found : is_at number place rows ≡ true → find (has_number number) rows ≡ slice_get rows place
  pub removed : is_at number place rows ≡ true
      → filter (λ (one : DeadRow). not (has_number number one)) rows ≡ remove rows place
  pub absent : is_at number place rows ≡ false → find (has_number number) rows ≡ None
  pub stays : is_at number place rows ≡ false
      → filter (λ (one : DeadRow). not (has_number number one)) rows ≡ rows

pub placed : (number : ℕ) (rows : List DeadRow) → Rises rows → IsPlaced number (place_of number rows) rows
placed number [] rising = record {
  found = λ there. refl;
  removed = λ there. absurd (false≢true there);
  absent = λ none. refl;
  stays = λ none. refl;
}
placed number (one ∷ rows) rising = by (cases_Bool (nat_lt one.number number)) (placed number rows rising.1)
  where
    has : DeadRow → Bool
    has = has_number number

    stays : DeadRow → Bool
    stays other = not (has_number number other)

    later : one.number < number → IsPlaced number (place_of number rows) rows
        → IsPlaced number (suc (place_of number rows)) (one ∷ rows)
    later lt rest =
        let fails : has one ≡ false = ne_eqb one.number number (λ e. absurd (omega arith)) in
        let skips : find has (one ∷ rows) ≡ find has rows = cond-false (has one) (Some one) (find has rows) fails in
        let keeps : filter stays (one ∷ rows) ≡ one ∷ filter stays rows =
        cond-true (stays one) (one ∷ filter stays rows) (filter stays rows) (ap not fails) in
        record {
          found = λ there. skips ∙ rest.found there;
          removed = λ there. keeps ∙ ap (λ (xs : List DeadRow). one ∷ xs) (rest.removed there);
          absent = λ none. skips ∙ rest.absent none;
          stays = λ none. keeps ∙ ap (λ (xs : List DeadRow). one ∷ xs) (rest.stays none);
        }

    here : number ≤ one.number → IsPlaced number zero (one ∷ rows)
    here le =
        let beyond : AllByRecursion (λ (other : DeadRow). number < other.number) rows =
        above number one.number rows le rising.0 in
        record {
          found = λ there. cond-true (has one) (Some one) (find has rows) there;
          removed =
              λ there.
              cond-false (stays one) (one ∷ filter stays rows) (filter stays rows) (ap not there)
              ∙ filter-above number rows beyond;
          absent = λ none. cond-false (has one) (Some one) (find has rows) none ∙ find-above number rows beyond;
          stays =
              λ none.
              cond-true (stays one) (one ∷ filter stays rows) (filter stays rows) (ap not none)
              ∙ ap (λ (xs : List DeadRow). one ∷ xs) (filter-above number rows beyond);
        }

    by : (nat_lt one.number number ≡ true) ⊎ (nat_lt one.number number ≡ false)
        → IsPlaced number (place_of number rows) rows → IsPlaced number (place_of number (one ∷ rows)) (one ∷ rows)
    by (inl less) rest =
        subst (λ n. IsPlaced number n (one ∷ rows))
        (sym (cond-true (nat_lt one.number number) (suc (place_of number rows)) 0 less))
        (later (ltb-true one.number number less) rest)
    by (inr more) rest =
        subst (λ n. IsPlaced number n (one ∷ rows))
        (sym (cond-false (nat_lt one.number number) (suc (place_of number rows)) 0 more))
        (here (ltb-false one.number number more))

-- What the worker was given ---------------------------------------------------------------------------

pub splits-push : (given n : ℕ) (rows : List DeadRow) (one : DeadRow) → SplitsAt given n rows → given < one.number
    → SplitsAt given n (rows ++ one ∷ [])
splits-push given zero rows one splits more =
    AllByRecursion-append (λ (other : DeadRow). given < other.number) rows (one ∷ []) splits (more, tt)
splits-push given (suc n) [] one splits more = absurd splits
splits-push given (suc n) (first ∷ rows) one splits more = (splits.0, splits-push given n rows one splits.1 more)

count-none : (given : ℕ) (rows : List DeadRow) → AllByRecursion (λ (one : DeadRow). given < one.number) rows
    → given_count given rows ≡ 0
count-none given [] each = refl
count-none given (one ∷ rows) each =
    let rest = count-none given rows each.1 in
    let none : 0 + 0 ≡ 0 = omega arith in
    sum_by-cons (λ (other : DeadRow). cond (is_given given other) 1 0) one rows
    ∙ ap (λ (b : Bool). cond b 1 0 + given_count given rows) (lt-leb one.number given each.0)
    ∙ ap (λ k. 0 + k) rest ∙ none

pub splits-count : (given n : ℕ) (rows : List DeadRow) → SplitsAt given n rows → given_count given rows ≡ n
splits-count given zero rows splits = count-none given rows splits
splits-count given (suc n) [] splits = absurd splits
splits-count given (suc n) (one ∷ rows) splits =
    let rest = splits-count given n rows splits.1 in
    let next : 1 + n ≡ suc n = omega arith in
    sum_by-cons (λ (other : DeadRow). cond (is_given given other) 1 0) one rows
    ∙ ap (λ (b : Bool). cond b 1 0 + given_count given rows) (le-leb one.number given splits.0)
    ∙ ap (λ k. 1 + k) rest ∙ next

pub splits-next : (given n : ℕ) (rows : List DeadRow) → SplitsAt given n rows → next_dead given rows ≡ slice_get rows n
splits-next given zero [] splits = refl
splits-next given zero (one ∷ rows) splits =
    cond-true (nat_lt given one.number) (Some one) (next_dead given rows) (lt-ltb given one.number splits.0)
splits-next given (suc n) [] splits = absurd splits
splits-next given (suc n) (one ∷ rows) splits =
    cond-false (nat_lt given one.number) (Some one) (next_dead given rows) (le-ltb given one.number splits.0)
    ∙ splits-next given n rows splits.1

pub splits-above : (given n : ℕ) (rows : List DeadRow) (one : DeadRow) → SplitsAt given n rows
    → slice_get rows n ≡ Some one → given < one.number
splits-above given zero [] one splits found = absurd cc
splits-above given zero (first ∷ rows) one splits found =
    let same : first ≡ one = cc in subst (λ (o : DeadRow). given < o.number) same splits.0
splits-above given (suc n) [] one splits found = absurd splits
splits-above given (suc n) (first ∷ rows) one splits found = splits-above given n rows one splits.1 found

pub splits-give : (given n : ℕ) (rows : List DeadRow) (one : DeadRow) → Rises rows → SplitsAt given n rows
    → slice_get rows n ≡ Some one → given ≤ one.number → SplitsAt one.number (n + 1) rows
splits-give given zero [] one rising splits found le = absurd cc
splits-give given zero (first ∷ rows) one rising splits found le =
    let same : first ≡ one = cc in
    let itself : first.number ≤ first.number = omega arith in
    subst (λ (o : DeadRow). SplitsAt o.number 1 (first ∷ rows)) same (itself, rising.0)
splits-give given (suc n) [] one rising splits found le = absurd splits
splits-give given (suc n) (first ∷ rows) one rising splits found le =
    let next : suc n + 1 ≡ suc (n + 1) = omega arith in
    let less : first.number ≤ one.number = omega (arith, splits.0) in
    subst (λ k. SplitsAt one.number k (first ∷ rows)) (sym next)
    (less, splits-give given n rows one rising.1 splits.1 found le)

-- one that was given leaves
pub record LeavesOne (given n : ℕ) (rows : List DeadRow) : Type 0 where
  pub left : ℕ
  pub one : n ≡ suc left
  pub splits : SplitsAt given left rows

pub splits-settle : (number given n : ℕ) (rows : List DeadRow) → Rises rows → SplitsAt given n rows → number ≤ given
    → is_at number (place_of number rows) rows ≡ true
    → LeavesOne given n (filter (λ (one : DeadRow). not (has_number number one)) rows)
splits-settle number given n [] rising splits le there = absurd (false≢true there)
splits-settle number given zero (one ∷ rows) rising splits le there =
    let beyond : AllByRecursion (λ (other : DeadRow). number < other.number) (one ∷ rows) =
    above number given (one ∷ rows) le splits in
    let none : place_of number (one ∷ rows) ≡ 0 =
    cond-false (nat_lt one.number number) (suc (place_of number rows)) 0
    (le-ltb one.number number (omega (arith, beyond.0))) in
    absurd (false≢true (sym (ne_eqb one.number number (λ e. absurd (omega (arith, beyond.0))))
    ∙ ap (λ k. is_at number k (one ∷ rows)) (sym none) ∙ there))
splits-settle number given (suc n) (one ∷ rows) rising splits le there =
    by (cases_Bool (nat_lt one.number number)) (splits-settle number given n rows rising.1 splits.1 le)
  where
    stays : DeadRow → Bool
    stays other = not (has_number number other)

    by : (nat_lt one.number number ≡ true) ⊎ (nat_lt one.number number ≡ false)
        → (is_at number (place_of number rows) rows ≡ true → LeavesOne given n (filter stays rows))
        → LeavesOne given (suc n) (filter stays (one ∷ rows))
    by (inl less) rest =
        let lt : one.number < number = ltb-true one.number number less in
        let place : place_of number (one ∷ rows) ≡ suc (place_of number rows) =
        cond-true (nat_lt one.number number) (suc (place_of number rows)) 0 less in
        let it = rest (sym (ap (λ k. is_at number k (one ∷ rows)) place) ∙ there) in
        let keeps : filter stays (one ∷ rows) ≡ one ∷ filter stays rows =
        cond-true (stays one) (one ∷ filter stays rows) (filter stays rows)
        (ap not (ne_eqb one.number number (λ e. absurd (omega arith)))) in
        record {
          left = suc it.left;
          one = ap suc it.one;
          splits = subst (SplitsAt given (suc it.left)) (sym keeps) (splits.0, it.splits);
        }
    by (inr more) rest =
        let le' : number ≤ one.number = ltb-false one.number number more in
        let place : place_of number (one ∷ rows) ≡ 0 =
        cond-false (nat_lt one.number number) (suc (place_of number rows)) 0 more in
        let has : has_number number one ≡ true = sym (ap (λ k. is_at number k (one ∷ rows)) place) ∙ there in
        let gone : filter stays (one ∷ rows) ≡ rows =
        cond-false (stays one) (one ∷ filter stays rows) (filter stays rows) (ap not has)
        ∙ filter-above number rows (above number one.number rows le' rising.0) in
        record { left = n; one = refl; splits = subst (SplitsAt given n) (sym gone) splits.1 }

-- a search's answer splits the list
pub splits-at : (given : ℕ) (rows : List DeadRow) (i : ℕ) → i ≤ length rows
    → ((k : ℕ) (d : DeadRow) → k < i → nat_le (get_or rows k d).number given ≡ true)
    → ((k : ℕ) (d : DeadRow) → i ≤ k → k < length rows → nat_le (get_or rows k d).number given ≡ false)
    → SplitsAt given i rows
splits-at given [] zero within front back = tt
splits-at given [] (suc i) within front back = absurd (omega arith)
splits-at given (one ∷ rows) zero within front back = (
  leb-false one.number given (back 0 one (omega arith) (omega arith)),
  splits-at given rows zero (omega arith) (λ k d lt. absurd (omega arith))
      (λ k d le long. back (suc k) d (omega arith) (omega arith)),
)
splits-at given (one ∷ rows) (suc i) within front back = (
  leb-true one.number given (front 0 one (omega arith)),
  splits-at given rows i (omega arith) (λ k d lt. front (suc k) d (omega arith))
      (λ k d le long. back (suc k) d (omega arith) (omega arith)),
)

-- Numbers ---------------------------------------------------------------------------------------------

pub rises-push : (rows : List DeadRow) (one : DeadRow) (last : ℕ) → Rises rows → AllByRecursion (IsDrawn last) rows
    → last < one.number → Rises (rows ++ one ∷ [])
rises-push [] one last rising drawn more = (tt, tt)
rises-push (first ∷ rows) one last rising drawn more =
    let less : first.number < one.number = omega (arith, drawn.0.1) in (
      AllByRecursion-append (λ (other : DeadRow). first.number < other.number) rows (one ∷ []) rising.0 (less, tt),
      rises-push rows one last rising.1 drawn.1 more,
    )

pub drawn-push : (rows : List DeadRow) (one : DeadRow) (last : ℕ) → AllByRecursion (IsDrawn last) rows
    → one.number ≡ last + 1 → AllByRecursion (IsDrawn (last + 1)) (rows ++ one ∷ [])
drawn-push rows one last drawn is =
    let first : 0 < one.number = omega arith in
    let le : one.number ≤ last + 1 = omega arith in
    AllByRecursion-append (IsDrawn (last + 1)) rows (one ∷ [])
    (AllByRecursion-weaker (IsDrawn last) (IsDrawn (last + 1)) (λ other it. (it.0, omega (arith, it.1))) rows drawn)
    ((first, le), tt)

pub rises-filter : (passes : DeadRow → Bool) (rows : List DeadRow) → Rises rows → Rises (filter passes rows)
rises-filter passes [] rising = tt
rises-filter passes (one ∷ rows) rising =
    let rest = rises-filter passes rows rising.1 in
    cond_both (passes one) (one ∷ filter passes rows) (filter passes rows) Rises
    (λ _. (
      AllByRecursion-filter (λ (other : DeadRow). one.number < other.number) passes
          rows rising.0,
      rest,
    ))
    (λ _. rest)

pub drawn-at : (last n : ℕ) (rows : List DeadRow) (one : DeadRow) → AllByRecursion (IsDrawn last) rows
    → slice_get rows n ≡ Some one → one.number ≤ last
drawn-at last n [] one drawn found = absurd cc
drawn-at last zero (first ∷ rows) one drawn found =
    let same : first ≡ one = cc in subst (λ (o : DeadRow). o.number ≤ last) same drawn.0.1
drawn-at last (suc n) (first ∷ rows) one drawn found = drawn-at last n rows one drawn.1 found

pub first-split : (last : ℕ) (rows : List DeadRow) → AllByRecursion (IsDrawn last) rows → SplitsAt 0 0 rows
first-split last rows drawn =
    AllByRecursion-weaker (IsDrawn last) (λ (one : DeadRow). 0 < one.number) (λ one it. it.0) rows drawn

-- as std's searches see rising numbers
all-at : (P : DeadRow → Type 0) (rows : List DeadRow) (i : ℕ) (d : DeadRow) → AllByRecursion P rows → i < length rows
    → P (get_or rows i d)
all-at P [] i d each within = absurd (omega arith)
all-at P (one ∷ rows) zero d each within = each.0
all-at P (one ∷ rows) (suc i) d each within = all-at P rows i d each.1 (omega arith)

pub rises-nondecreasing : (rows : List DeadRow) → Rises rows → IsNonDecreasingBy (λ (one : DeadRow). one.number) rows
rises-nondecreasing [] rising i j d le within = absurd (omega arith)
rises-nondecreasing (one ∷ rows) rising zero zero d le within = omega arith
rises-nondecreasing (one ∷ rows) rising zero (suc j) d le within =
    let later : one.number < (get_or rows j d).number =
    all-at (λ (other : DeadRow). one.number < other.number) rows j d rising.0 (omega arith) in
    omega arith
rises-nondecreasing (one ∷ rows) rising (suc i) zero d le within = absurd (omega arith)
rises-nondecreasing (one ∷ rows) rising (suc i) (suc j) d le within =
    rises-nondecreasing rows rising.1 i j d (omega arith) (omega arith)

-- The parts of the queue ------------------------------------------------------------------------------

abbrev pub IsKept : ℕ → Letters → Type 0
IsKept n d = AreNumbered d × SplitsAt d.given n d.rows

-- the same rows
pub kept-rows : (n : ℕ) (rows rows' : List DeadRow) (deads given attached : ℕ) → rows' ≡ rows
    → IsKept n (letters_of rows deads given attached) → IsKept n (letters_of rows' deads given attached)
kept-rows n rows rows' deads given attached same kept =
    subst (λ (xs : List DeadRow). IsKept n (letters_of xs deads given attached)) (sym same) kept

pub kept-add : (n : ℕ) (row : ReadyRow) (reason : Reason) (d : Letters) (after : List DeadRow) → IsKept n d
    → after ≡ d.rows ++ record { number = d.deads + 1; reason = reason; row = row } ∷ []
    → IsKept n (letters_of after (d.deads + 1) d.given d.attached)
kept-add n row reason d after kept grows =
    let one : DeadRow = record { number = d.deads + 1; reason = reason; row = row } in
    let least : d.given ≤ d.deads = kept.0.given in
    subst (λ (rows : List DeadRow). IsKept n (letters_of rows (d.deads + 1) d.given d.attached)) (sym grows) (
      record {
        rising = rises-push d.rows one d.deads kept.0.rising kept.0.drawn (omega arith);
        drawn = drawn-push d.rows one d.deads kept.0.drawn refl;
        given = omega arith;
      },
      splits-push d.given n d.rows one kept.1 (omega arith),
    )

pub may_give-is : (n : ℕ) (d : Letters) → IsKept n d → (nat_lt 0 d.attached && nat_lt n MOST_GIVEN) ≡ may_give d
may_give-is n d kept =
    ap (λ k. nat_lt 0 d.attached && nat_lt k MOST_GIVEN) (sym (splits-count d.given n d.rows kept.1))

-- what is given is the next one
pub offer-next : (d : Letters) (one : DeadRow) → next_offer d ≡ Some one → next_dead d.given d.rows ≡ Some one
offer-next d one is = by (may_give d) is
  where
    by : (b : Bool) → cond b (next_dead d.given d.rows) None ≡ Some one → next_dead d.given d.rows ≡ Some one
    by true is = is
    by false is = absurd cc

pub kept-give : (n : ℕ) (d : Letters) (one : DeadRow) → IsKept n d → next_offer d ≡ Some one
    → IsKept (n + 1) (letters_of d.rows d.deads one.number d.attached)
kept-give n d one kept is =
    let at : slice_get d.rows n ≡ Some one =
    sym (splits-next d.given n d.rows kept.1) ∙ offer-next d one is in
    let more : d.given < one.number = splits-above d.given n d.rows one kept.1 at in (
      record {
        rising = kept.0.rising;
        drawn = kept.0.drawn;
        given = drawn-at d.deads n d.rows one kept.0.drawn at;
      },
      splits-give d.given n d.rows one kept.0.rising kept.1 at (omega arith),
    )

-- a message that is settled
pub record TakesOut (term number n : ℕ) (d : Letters) (place : ℕ) : Type 0 where
  pub one : settled term number d ≡ slice_get d.rows place
  pub left : settle term number d ≡ letters_of (remove d.rows place) d.deads d.given d.attached
  pub under_way : 0 < n
  pub kept : IsKept (n - 1) (letters_of (remove d.rows place) d.deads d.given d.attached)

pub takes_out : (term number n : ℕ) (d : Letters) (place : ℕ) → IsKept n d → IsSettledAt term number d place
    → TakesOut term number n d place
takes_out term number n d place kept at =
    let stays : DeadRow → Bool = λ one. not (has_number number one) in
    let own : is_at number (place_of number d.rows) d.rows ≡ true =
    ap (λ k. is_at number k d.rows) (sym at.at) ∙ at.there in
    let is = placed number d.rows kept.0.rising in
    let removed : filter stays d.rows ≡ remove d.rows place =
    is.removed own ∙ ap (remove d.rows) (sym at.at) in
    let given : number ≤ d.given =
    leb-true number d.given (and_parts (nat_eq term d.attached) (nat_le number d.given) at.may).1 in
    let leaves = splits-settle number d.given n d.rows kept.0.rising kept.1 given own in
    let fewer : n - 1 ≡ leaves.left = omega (arith, leaves.one) in
    record {
      one =
          cond-true (may_settle term number d) (find (has_number number) d.rows) None at.may ∙ is.found own
          ∙ ap (slice_get d.rows) (sym at.at);
      left =
          cond-true (may_settle term number d) (record d { rows = filter stays d.rows }) d at.may
          ∙ ap (λ (rows : List DeadRow). record d { rows = rows }) removed;
      under_way = omega (arith, leaves.one);
      kept =
          subst (λ (rows : List DeadRow). IsKept (n - 1) (letters_of rows d.deads d.given d.attached)) removed (
            record {
              rising = rises-filter stays d.rows kept.0.rising;
              drawn = AllByRecursion-filter (IsDrawn d.deads) stays d.rows kept.0.drawn;
              given = kept.0.given;
            },
            subst (λ k. SplitsAt d.given k (filter stays d.rows)) (sym fewer) leaves.splits,
          );
    }

pub nothing-there : (term number : ℕ) (d : Letters) (place : ℕ) → AreNumbered d → place ≡ place_of number d.rows
    → is_at number place d.rows ≡ false → SettlesNothing term number d
nothing-there term number d place numbered at none =
    let stays : DeadRow → Bool = λ one. not (has_number number one) in
    let own : is_at number (place_of number d.rows) d.rows ≡ false =
    ap (λ k. is_at number k d.rows) (sym at) ∙ none in
    let is = placed number d.rows numbered.rising in
    record {
      none =
          cond_both (may_settle term number d) (find (has_number number) d.rows) None (λ (o : Option DeadRow). o ≡ None)
          (λ _. is.absent own) (λ _. refl);
      stays =
          cond_both (may_settle term number d) (record d { rows = filter stays d.rows }) d (λ (e : Letters). e ≡ d)
          (λ _. ap (λ (rows : List DeadRow). record d { rows = rows }) (is.stays own)) (λ _. refl);
    }

pub nothing-may : (term number : ℕ) (d : Letters) → may_settle term number d ≡ false → SettlesNothing term number d
nothing-may term number d none = record {
  none = cond-false (may_settle term number d) (find (has_number number) d.rows) None none;
  stays =
      cond-false (may_settle term number d)
      (record d { rows = filter (λ (one : DeadRow). not (has_number number one)) d.rows }) d none;
}

pub at-within : (number place : ℕ) (rows : List DeadRow) → is_at number place rows ≡ true → place < length rows
at-within number place [] there = absurd (false≢true there)
at-within number zero (one ∷ rows) there = omega arith
at-within number (suc place) (one ∷ rows) there = let rest = at-within number place rows there in omega arith

-- the worker has fewer under way than it may have
pub offer-few : (n : ℕ) (d : Letters) (one : DeadRow) → IsKept n d → next_offer d ≡ Some one → n < MOST_GIVEN
offer-few n d one kept is =
    let few : given_count d.given d.rows < MOST_GIVEN =
    ltb-true (given_count d.given d.rows) MOST_GIVEN
    (and_parts (nat_lt 0 d.attached) (nat_lt (given_count d.given d.rows) MOST_GIVEN) (by (may_give d) is)).1 in
    subst (λ k. k < MOST_GIVEN) (splits-count d.given n d.rows kept.1) few
  where
    by : (b : Bool) → cond b (next_dead d.given d.rows) None ≡ Some one → b ≡ true
    by true is = refl
    by false is = absurd cc
