-- Consumers with ids of their own, one after the other: nobody before one has its id, and its row may be added.
use Rattle.std.proofs.Common.{◌≡◌, ℕ, zero, suc, ◌+◌, ◌-◌, ◌<◌, ◌≤◌, false, List, [], ◌∷◌, ◌++◌, Some, take, drop, map, is_some, refl, ap, ◌∙◌, subst, arith}
use Rattle.std.specs.Prelude.{slice_get}
use Rattle.std.specs.List.{AllByRecursion}
use Rattle.std.proofs.lemmas.Bool.{cond-false}
use Rattle.std.proofs.lemmas.List.{take_more}
use Rattle.std.proofs.lemmas.Option.{slice_get_within, get_or_from_slice_get}
use Rattle.qq_base.specs.declared.ids.ConsumerId.{ConsumerId}
use Rattle.qq_entry.specs.declared.message.ReadyRow.{ReadyRow}
use Rattle.qq_model.specs.declared.place.Place.TheVariants.{Out}
use Rattle.qq_parts.specs.Reduced.{Item}
use Rattle.qq_parts.specs.Parts.{Served, HasOut, NumbersRise, IsPlaced, item_number, AreTwo, AreApart}
use Rattle.qq_consumer.specs.declared.rising.Numbered.{Numbered}
use Rattle.qq_consumer.specs.declared.row.ConsumerRow.{ConsumerRow}
use Rattle.qq_consumer.specs.Numbers.{Rises}
use Rattle.qq_consumer.specs.Roster.{served_of, out_item, is_one, one_of, is_there}
use Rattle.qq_consumer.specs.Joined.{IsGiven}

pub take-at : {A : Type 0} (xs : List A) (i : ℕ) (x : A) → slice_get xs i ≡ Some x
    → take (i + 1) xs ≡ take i xs ++ x ∷ []
take-at {A = A} xs i x at =
    take_more xs i x (slice_get_within xs i x at)
    ∙ ap (λ (y : A). take i xs ++ y ∷ []) (get_or_from_slice_get xs i x x at)

pub each-at : {A : Type 0} (P : A → Type 0) (xs : List A) (i : ℕ) (x : A) → AllByRecursion P xs
    → slice_get xs i ≡ Some x → P x
each-at P [] i x each at = absurd cc
each-at P (y ∷ xs) zero x each at = let same : y ≡ x = cc in subst P same each.0
each-at P (y ∷ xs) (suc i) x each at = each-at P xs i x each.1 at

pub each-middle : {A : Type 0} (P : A → Type 0) (xs : List A) (x : A) (ys : List A)
    → AllByRecursion P (xs ++ x ∷ ys) → P x
each-middle P [] x ys each = each.0
each-middle P (y ∷ xs) x ys each = each-middle P xs x ys each.1

split-at : {A : Type 0} (xs : List A) (i : ℕ) (x : A) → slice_get xs i ≡ Some x
    → xs ≡ take i xs ++ x ∷ drop (suc i) xs
split-at [] i x at = absurd cc
split-at {A = A} (y ∷ xs) zero x at = let same : y ≡ x = cc in ap (λ (z : A). z ∷ xs) same
split-at {A = A} (y ∷ xs) (suc i) x at = ap (λ (zs : List A). y ∷ zs) (split-at xs i x at)

-- nobody before one has its id
pub free-middle : (done : List Served) (one : Served) (more : List Served) → AreApart (done ++ one ∷ more)
    → is_there one.consumer.id done ≡ false
free-middle [] one more apart = refl
free-middle (first ∷ done) one more apart =
    let two : AreTwo first one = each-middle (AreTwo first) done one more apart.0 in
    ap is_some (cond-false (is_one one.consumer.id first) (Some first) (one_of one.consumer.id done) two.0)
    ∙ free-middle done one more apart.1

pub free-before : (ones : List Served) (i : ℕ) (one : Served) → AreApart ones → slice_get ones i ≡ Some one
    → is_there one.consumer.id (take i ones) ≡ false
free-before ones i one apart at =
    free-middle (take i ones) one (drop (suc i) ones) (subst AreApart (split-at ones i one at) apart)

-- ---- a row of what is out

each-unmap : {A B : Type 0} (P : A → Type 0) (Q : B → Type 0) (f : A → B) (xs : List A)
    → ((x : A) → Q (f x) → P x) → AllByRecursion Q (map f xs) → AllByRecursion P xs
each-unmap P Q f [] from each = tt
each-unmap P Q f (x ∷ xs) from each = (from x each.0, each-unmap P Q f xs from each.1)

rises-out : (id : ConsumerId) (xs : List (Numbered ReadyRow)) → NumbersRise (map (out_item id) xs) → Rises xs
rises-out id [] rising = tt
rises-out id (x ∷ xs) rising = (
  each-unmap (λ (y : Numbered ReadyRow). x.number < y.number) (λ (y : Item). x.number < item_number y)
      (out_item id) xs (λ y less. less) rising.0,
  rises-out id xs rising.1,
)

pub given-row : (row : ConsumerRow) → HasOut (served_of row) → IsGiven row
given-row row out = record {
  rising = rises-out row.consumer.id row.out.items out.0.rising;
  below =
      each-unmap (λ (y : Numbered ReadyRow). y.number < row.consumer.next_id)
      (IsPlaced (λ n. Out row.consumer.id n) (row.consumer.next_id - 1)) (out_item row.consumer.id) row.out.items
      (λ y placed. below y.number placed.drawn) out.0.each;
  first = out.1;
}
  where
    below : (n : ℕ) → n ≤ row.consumer.next_id - 1 → n < row.consumer.next_id
    below n most = let first : 0 < row.consumer.next_id = out.1 in omega arith
