-- What is counted and found of a mapped list, and the while loop of so many rounds.
use Rattle.std.proofs.Common.{◌≡◌, ℕ, zero, suc, ◌+◌, ◌-◌, ◌<◌, Bool, true, false, cond, List, [], ◌∷◌, ◌++◌, Option, Some, None, map, take, length, refl, sym, ap, ◌∙◌, arith, subst, if◌then◌else◌}
use Rattle.std.specs.Prelude.{find, count_by, sum_by, slice_get, IfNone, IfSome}
use Rattle.std.specs.Option.{option_map, option_map_or}
use Rattle.std.proofs.lemmas.List.{length-append}
use Rattle.std.proofs.lemmas.List.Sums.{sum_by-cons}
use Rattle.qq_model.specs.Choice.{least_by}
use Rattle.qq_model.specs.Changes.{while_next}
use Rattle.qq_parts.specs.Parts.{Served, outs}
use Rattle.qq_parts.proofs.Choosing.{fold-over}

pub find-over : {A B : Type 0} (test : B → Bool) (f : A → B) (xs : List A)
    → find test (map f xs) ≡ option_map f (find (λ (x : A). test (f x)) xs)
find-over test f [] = refl
find-over {A = A} test f (x ∷ xs) = by (find-over test f xs) (test (f x))
  where
    by : find test (map f xs) ≡ option_map f (find (λ (y : A). test (f y)) xs) → (b : Bool)
        → cond b (Some (f x)) (find test (map f xs)) ≡ option_map f (cond b (Some x) (find (λ (y : A). test (f y)) xs))
    by later true = refl
    by later false = later

pub sum-over : {A B : Type 0} (g : B → ℕ) (f : A → B) (xs : List A)
    → sum_by g (map f xs) ≡ sum_by (λ (x : A). g (f x)) xs
sum-over g f [] = refl
sum-over {A = A} g f (x ∷ xs) =
    sum_by-cons g (f x) (map f xs) ∙ ap (λ n. g (f x) + n) (sum-over g f xs)
    ∙ sym (sum_by-cons (λ (y : A). g (f y)) x xs)

pub count-over : {A B : Type 0} (test : B → Bool) (f : A → B) (xs : List A)
    → count_by test (map f xs) ≡ count_by (λ (x : A). test (f x)) xs
count-over test f xs = sum-over (λ y. if test y then 1 else 0) f xs

pub least-over : {A B K : Type 0} (less : K → K → Bool) (key : B → Option K) (f : A → B) (xs : List A)
    → least_by less key (map f xs) ≡ option_map f (least_by less (λ (y : A). key (f y)) xs)
least-over less key f xs = fold-over less key f xs None

-- a round with a next step leaves one round less, from that step on
pub while_next-more : {A : Type 0} (n i : ℕ) (next : A → Option A) (a b whole : A) (did : Bool) → i < n
    → next a ≡ (if did then Some b else None) → did ≡ true → while_next (n - i) next a ≡ whole
    → while_next (n - (i + 1)) next b ≡ whole
while_next-more {A = A} n i next a b whole did lt made went so_far =
    let rounds : n - i ≡ suc (n - (i + 1)) = omega arith in
    let step : next a ≡ Some b = made ∙ ap (λ (d : Bool). if d then Some b else None) went in
    sym (ap (λ (k : ℕ). while_next k next a) rounds
    ∙ ap (λ (o : Option A). option_map_or (while_next (n - (i + 1)) next) o a) step) ∙ so_far

-- what is out with one consumer more
pub outs-more : (ones : List Served) (i : ℕ) → i < length ones
    → length (outs (take i ones)) + option_map_or (λ (one : Served). length one.out) (slice_get ones i) 0
    ≡ length (outs (take (i + 1) ones))
outs-more [] i lt = absurd (omega (arith, lt))
outs-more (one ∷ ones) zero lt =
    let all : length (one.out ++ []) ≡ length one.out + 0 = length-append one.out [] in omega (arith, all)
outs-more (one ∷ ones) (suc i) lt =
    let rest : length (outs (take i ones)) + option_map_or (λ (other : Served). length other.out) (slice_get ones i) 0
    ≡ length (outs (take (i + 1) ones)) = outs-more ones i (omega (arith, lt)) in
    let here : length (outs (take (suc i) (one ∷ ones))) ≡ length one.out + length (outs (take i ones)) =
    length-append one.out (outs (take i ones)) in
    let there : length (outs (take (suc (i + 1)) (one ∷ ones))) ≡ length one.out + length (outs (take (i + 1) ones)) =
    length-append one.out (outs (take (i + 1) ones)) in
    let more : suc i + 1 ≡ suc (i + 1) = omega arith in
    let same : length (outs (take (suc i + 1) (one ∷ ones))) ≡ length (outs (take (suc (i + 1)) (one ∷ ones))) =
    ap (λ (k : ℕ). length (outs (take k (one ∷ ones)))) more in
    omega (arith, rest, here, there, same)

pub while_next-none : {A : Type 0} (n : ℕ) (next : A → Option A) (a : A) → next a ≡ None → while_next n next a ≡ a
while_next-none zero next a none = refl
while_next-none {A = A} (suc n) next a none = ap (λ (o : Option A). option_map_or (while_next n next) o a) none

-- where there is no next step, the loop has led here
pub while_next-over : {A : Type 0} (n : ℕ) (next : A → Option A) (a b whole : A) (did : Bool)
    → next a ≡ (if did then Some b else None) → did ≡ false → while_next n next a ≡ whole → b ≡ a → whole ≡ b
while_next-over {A = A} n next a b whole did made went so_far still =
    sym so_far
    ∙ while_next-none n next a (made ∙ ap (λ (d : Bool). if d then Some b else None) went) ∙ sym still

-- what a choice says of the one that is there
pub if-none : {A P : Type 0} (o : Option A) → o ≡ None → IfNone o P → P
if-none None is p = p
if-none (Some x) is p = absurd cc

pub if-some : {A : Type 0} (P : A → Type 0) (o : Option A) (x : A) → o ≡ Some x → IfSome o P → P x
if-some P None x is p = absurd cc
if-some P (Some y) x is p = let same : y ≡ x = cc in subst P same p
