-- Numbers that rise.
use Rattle.std.proofs.Common.{◌≡◌, ◌≢◌, ◌<◌, ◌≤◌, ◌⊎◌, ℕ, zero, suc, Bool, true, false, cond, List, [], ◌∷◌, length, get_or, refl, sym, ap, ◌∙◌, subst, inl, inr, arith}
use Rattle.std.specs.Prelude.{Result, Ok, Err, OnErr, OnOk, insert, nat_eq, nat_lt, remove}
use Rattle.std.specs.List.{AllByRecursion}
use Rattle.std.specs.List.Sorted.{IsNonDecreasingBy}
use Rattle.std.proofs.lemmas.Bool.{cases_Bool, cond-true, cond-false, cond_both, ltb-true, ltb-false, eqb-true, eqb-false, ne_eqb, or_parts, or_from}
use Rattle.qq_base.proofs.Lists.{AllByRecursion-weaker}
use Rattle.qq_cluster.specs.Active.{AreRising, is_at, is_in, place_of, put_in}

-- ---- a search's answer

pub place-is : (number : ℕ) (numbers : List ℕ) (i : ℕ) → i ≤ length numbers
    → ((k d : ℕ) → k < i → nat_lt (get_or numbers k d) number ≡ true)
    → ((k d : ℕ) → i ≤ k → k < length numbers → nat_lt (get_or numbers k d) number ≡ false)
    → i ≡ place_of number numbers
place-is number [] i within front back = omega arith
place-is number (other ∷ numbers) zero within front back =
    sym (cond-false (nat_lt other number) (suc (place_of number numbers)) 0 (back 0 other (omega arith) (omega arith)))
place-is number (other ∷ numbers) (suc i) within front back =
    ap suc (place-is number numbers i (omega arith) (λ k d lt. front (suc k) d (omega arith))
    (λ k d le long. back (suc k) d (omega arith) (omega arith)))
    ∙ sym (cond-true (nat_lt other number) (suc (place_of number numbers)) 0 (front 0 other (omega arith)))

all-at : (P : ℕ → Type 0) (numbers : List ℕ) (i d : ℕ) → AllByRecursion P numbers → i < length numbers
    → P (get_or numbers i d)
all-at P [] i d each within = absurd (omega arith)
all-at P (number ∷ numbers) zero d each within = each.0
all-at P (number ∷ numbers) (suc i) d each within = all-at P numbers i d each.1 (omega arith)

pub rising-nondecreasing : (numbers : List ℕ) → AreRising numbers → IsNonDecreasingBy (λ (n : ℕ). n) numbers
rising-nondecreasing [] rising i j d le within = absurd (omega arith)
rising-nondecreasing (number ∷ numbers) rising zero zero d le within = omega arith
rising-nondecreasing (number ∷ numbers) rising zero (suc j) d le within =
    let later : number < get_or numbers j d =
    all-at (λ (n : ℕ). number < n) numbers j d rising.0 (omega arith) in
    omega arith
rising-nondecreasing (number ∷ numbers) rising (suc i) zero d le within = absurd (omega arith)
rising-nondecreasing (number ∷ numbers) rising (suc i) (suc j) d le within =
    rising-nondecreasing numbers rising.1 i j d (omega arith) (omega arith)

pub place-most : (number : ℕ) (numbers : List ℕ) → place_of number numbers ≤ length numbers
place-most number [] = omega arith
place-most number (other ∷ numbers) =
    let rest = place-most number numbers in
    cond_both (nat_lt other number) (suc (place_of number numbers)) 0 (λ (k : ℕ). k ≤ suc (length numbers))
    (λ _. omega (arith, rest)) (λ _. omega arith)

-- ---- a number is put in

pub put-there : (number : ℕ) (numbers : List ℕ) → is_at number (place_of number numbers) numbers ≡ true
    → numbers ≡ put_in number numbers
put-there number [] is = absurd cc
put-there number (other ∷ numbers) is = by (nat_lt other number) refl is (put-there number numbers)
  where
    by : (b : Bool) → nat_lt other number ≡ b → is_at number (cond b (suc (place_of number numbers)) 0) (other ∷ numbers) ≡ true
        → (is_at number (place_of number numbers) numbers ≡ true → numbers ≡ put_in number numbers)
        → other ∷ numbers ≡ cond b (other ∷ put_in number numbers)
        (cond (nat_eq other number) (other ∷ numbers) (number ∷ other ∷ numbers))
    by true lt there rest = ap (λ (l : List ℕ). other ∷ l) (rest there)
    by false not' there rest = sym (cond-true (nat_eq other number) (other ∷ numbers) (number ∷ other ∷ numbers) there)

pub put-new : (number : ℕ) (numbers : List ℕ) → is_at number (place_of number numbers) numbers ≡ false
    → insert numbers (place_of number numbers) number ≡ put_in number numbers
put-new number [] is = refl
put-new number (other ∷ numbers) is = by (nat_lt other number) refl is (put-new number numbers)
  where
    by : (b : Bool) → nat_lt other number ≡ b → is_at number (cond b (suc (place_of number numbers)) 0) (other ∷ numbers) ≡ false
        → (is_at number (place_of number numbers) numbers ≡ false
        → insert numbers (place_of number numbers) number ≡ put_in number numbers)
        → insert (other ∷ numbers) (cond b (suc (place_of number numbers)) 0) number
        ≡ cond b (other ∷ put_in number numbers)
        (cond (nat_eq other number) (other ∷ numbers) (number ∷ other ∷ numbers))
    by true lt there rest = ap (λ (l : List ℕ). other ∷ l) (rest there)
    by false not' there rest = sym (cond-false (nat_eq other number) (other ∷ numbers) (number ∷ other ∷ numbers) there)

pub put-all : (P : ℕ → Type 0) (number : ℕ) (numbers : List ℕ) → AllByRecursion P numbers → P number
    → AllByRecursion P (put_in number numbers)
put-all P number [] each own = (own, tt)
put-all P number (other ∷ numbers) each own =
    cond_both (nat_lt other number) (other ∷ put_in number numbers)
    (cond (nat_eq other number) (other ∷ numbers) (number ∷ other ∷ numbers)) (AllByRecursion P)
    (λ _. (each.0, put-all P number numbers each.1 own))
    (λ _. cond_both (nat_eq other number) (other ∷ numbers) (number ∷ other ∷ numbers) (AllByRecursion P)
    (λ _. each) (λ _. (own, each)))

pub put-rises : (number : ℕ) (numbers : List ℕ) → AreRising numbers → AreRising (put_in number numbers)
put-rises number [] rising = (tt, tt)
put-rises number (other ∷ numbers) rising =
    cond_both (nat_lt other number) (other ∷ put_in number numbers)
    (cond (nat_eq other number) (other ∷ numbers) (number ∷ other ∷ numbers)) AreRising
    (λ lt. (
      put-all (λ (later : ℕ). other < later) number numbers rising.0 (ltb-true other number lt),
      put-rises number numbers rising.1,
    ))
    (λ least. cond_both (nat_eq other number) (other ∷ numbers) (number ∷ other ∷ numbers) AreRising (λ _. rising)
    (λ ne. (let le : number ≤ other = ltb-false other number least in
    let apart = eqb-false other number ne in
    let lt : number < other = by other number le apart in (
      (
        lt,
        AllByRecursion-weaker (λ (later : ℕ). other < later) (λ (later : ℕ). number < later)
            (λ later more. omega (arith, lt, more)) numbers rising.0,
      ),
      rising,
    ))))
  where
    by : (a b : ℕ) → b ≤ a → (a ≡ b → ⊥) → b < a
    by a b le apart = omega (arith, le, apart)

-- ---- which numbers there are

pub in-put : (m number : ℕ) (numbers : List ℕ) → is_in m (put_in number numbers) ≡ false
    → (m ≢ number) × (is_in m numbers ≡ false)
in-put m number [] none' = (eqb-false m number (or_parts (nat_eq m number) false none').0, refl)
in-put m number (other ∷ numbers) none' = by (nat_lt other number) refl none' (in-put m number numbers)
  where
    by : (b : Bool) → nat_lt other number ≡ b → is_in m (cond b (other ∷ put_in number numbers)
        (cond (nat_eq other number) (other ∷ numbers) (number ∷ other ∷ numbers))) ≡ false
        → (is_in m (put_in number numbers) ≡ false → (m ≢ number) × (is_in m numbers ≡ false))
        → (m ≢ number) × (is_in m (other ∷ numbers) ≡ false)
    by true lt there rest =
        let parts = or_parts (nat_eq m other) (is_in m (put_in number numbers)) there in
        let more = rest parts.1 in (more.0, or_from (nat_eq m other) (is_in m numbers) parts.0 more.1)
    by false not' there rest = same (nat_eq other number) refl there
      where
        same : (b : Bool) → nat_eq other number ≡ b
            → is_in m (cond b (other ∷ numbers) (number ∷ other ∷ numbers)) ≡ false
            → (m ≢ number) × (is_in m (other ∷ numbers) ≡ false)
        same true e there =
            let parts = or_parts (nat_eq m other) (is_in m numbers) there in
            (subst (λ (n : ℕ). m ≢ n) (eqb-true other number e) (eqb-false m other parts.0), there)
        same false ne there =
            let parts = or_parts (nat_eq m number) (is_in m (other ∷ numbers)) there in
            (eqb-false m number parts.0, parts.1)

pub in-put_own : (number : ℕ) (numbers : List ℕ) → is_in number (put_in number numbers) ≡ true
in-put_own number numbers = by (cases_Bool (is_in number (put_in number numbers)))
  where
    by : ((is_in number (put_in number numbers) ≡ true) ⊎ (is_in number (put_in number numbers) ≡ false))
        → is_in number (put_in number numbers) ≡ true
    by (inl there) = there
    by (inr missing) = absurd ((in-put number number numbers missing).0 refl)

-- ---- one number less

pub remove-all : (P : ℕ → Type 0) (numbers : List ℕ) (place : ℕ) → AllByRecursion P numbers
    → AllByRecursion P (remove numbers place)
remove-all P [] zero each = tt
remove-all P [] (suc place) each = tt
remove-all P (number ∷ numbers) zero each = each.1
remove-all P (number ∷ numbers) (suc place) each = (each.0, remove-all P numbers place each.1)

pub remove-rises : (numbers : List ℕ) (place : ℕ) → AreRising numbers → AreRising (remove numbers place)
remove-rises [] zero rising = tt
remove-rises [] (suc place) rising = tt
remove-rises (number ∷ numbers) zero rising = rising.1
remove-rises (number ∷ numbers) (suc place) rising = (
  remove-all (λ (later : ℕ). number < later) numbers place rising.0,
  remove-rises numbers place rising.1,
)

pub in-removed : (m : ℕ) (numbers : List ℕ) (place d : ℕ) → is_in m (remove numbers place) ≡ false
    → (m ≢ get_or numbers place d) → is_in m numbers ≡ false
in-removed m [] place d none' apart = refl
in-removed m (number ∷ numbers) zero d none' apart =
    or_from (nat_eq m number) (is_in m numbers) (ne_eqb m number apart) none'
in-removed m (number ∷ numbers) (suc place) d none' apart =
    let parts = or_parts (nat_eq m number) (is_in m (remove numbers place)) none' in
    or_from (nat_eq m number) (is_in m numbers) parts.0 (in-removed m numbers place d parts.1 apart)

-- whatever the answer is
pub rises-either : {E : Type 0} (number : ℕ) (r : Result (Unit {0}) E) (old new : List ℕ) → AreRising old
    → OnOk r (new ≡ put_in number old) → OnErr r (new ≡ old) → AreRising new
rises-either number (Ok x) old new rising ok err = subst AreRising (sym ok) (put-rises number old rising)
rises-either number (Err e) old new rising ok err = subst AreRising (sym err) rising
