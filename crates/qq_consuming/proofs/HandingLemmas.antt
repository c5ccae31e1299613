-- What is handed out one by one, and what a delivery that comes leaves.
use Rattle.std.proofs.Common.{◌≡◌, ℕ, zero, suc, ◌+◌, ◌≤◌, List, [], ◌∷◌, ◌++◌, length, Option, Some, None, replicate, refl, sym, ap, ◌∙◌, subst, append_assoc, append-nil, arith}
use Rattle.std.specs.Prelude.{nat_lt}
use Rattle.std.specs.Map.{values_of}
use Rattle.std.proofs.lemmas.Bool.{cond_both}
use Rattle.qq_entry.specs.declared.answer.Delivery.{Delivery}
use Rattle.qq_consuming.specs.Arrivals.{Deed, Asks, after_deeds, given, handed}
use Rattle.qq_consuming.specs.Consuming.{Received, arrive, hand_out, hand_out_by, has_arrived, insert_delivery, next_by, next_delivery, without_first}

abbrev pub asks : ℕ → List Deed
asks n = replicate n Asks

-- ---- where the next one isn't there, nothing more is handed out

pub none-after : (n : ℕ) (r : Received) → next_delivery r ≡ None → after_deeds (asks n) r ≡ r
none-after zero r none' = refl
none-after (suc n) r none' =
    ap (λ (o : Option Delivery). after_deeds (asks n) (hand_out_by o r)) none' ∙ none-after n r none'

pub none-handed : (n : ℕ) (r : Received) → next_delivery r ≡ None → handed r (asks n) ≡ []
none-handed zero r none' = refl
none-handed (suc n) r none' =
    ap (λ (o : Option Delivery). given o ++ handed (hand_out_by o r) (asks n)) none' ∙ none-handed n r none'

-- ---- one by one

-- after some of the asks, with so many left
pub record Handing (left count : ℕ) (old new : Received) (before items : List Delivery) : Type 0 where
  pub after : after_deeds (asks left) new ≡ after_deeds (asks count) old
  pub taken : items ++ handed new (asks left) ≡ before ++ handed old (asks count)

pub handing-none : (count left : ℕ) (r : Received) (items : List Delivery) → left ≡ count
    → Handing left count r r items items
handing-none count left r items same = record {
  after = ap (λ (n : ℕ). after_deeds (asks n) r) same;
  taken = ap (λ (n : ℕ). items ++ handed r (asks n)) same;
}

pub handing-more : (left count : ℕ) (old mid new : Received) (before items more : List Delivery) (d : Delivery)
    → Handing (suc left) count old mid before items → next_delivery mid ≡ Some d → new ≡ hand_out mid
    → more ≡ items ++ d ∷ [] → Handing left count old new before more
handing-more left count old mid new before items more d h there is grown =
    let one : handed mid (asks (suc left)) ≡ d ∷ handed (hand_out mid) (asks left) =
    ap (λ (o : Option Delivery). given o ++ handed (hand_out mid) (asks left)) there in
    record {
      after = ap (after_deeds (asks left)) is ∙ h.after;
      taken = ap (λ (l : List Delivery). l ++ handed new (asks left)) grown
          ∙ append_assoc items (d ∷ []) (handed new (asks left))
          ∙ ap (λ (r : Received). items ++ d ∷ handed r (asks left)) is
          ∙ ap (λ (l : List Delivery). items ++ l) (sym one) ∙ h.taken;
    }

pub handing-stops : (left count : ℕ) (old new : Received) (before items : List Delivery)
    → Handing left count old new before items → next_delivery new ≡ None
    → (new ≡ after_deeds (asks count) old) × (items ≡ before ++ handed old (asks count))
handing-stops left count old new before items h none' = (
  sym (none-after left new none') ∙ h.after,
  sym (append-nil items) ∙ sym (ap (λ (l : List Delivery). items ++ l) (none-handed left new none')) ∙ h.taken,
)

pub handing-ends : (left count : ℕ) (old new : Received) (before items : List Delivery)
    → Handing left count old new before items → left ≡ 0
    → (new ≡ after_deeds (asks count) old) × (items ≡ before ++ handed old (asks count))
handing-ends left count old new before items h done =
    let e : Handing 0 count old new before items =
    subst (λ (n : ℕ). Handing n count old new before items) done h in
    (e.after, sym (append-nil items) ∙ e.taken)

-- ---- how many wait

-- each that is handed out has waited
pub handed-waited : (r : Received) (d : Delivery) → next_delivery r ≡ Some d
    → length r.waiting ≡ suc (length (hand_out r).waiting)
handed-waited r d there =
    by r.waiting there ∙ sym (ap (λ (o : Option Delivery). suc (length (hand_out_by o r).waiting)) there)
  where
    by : (ds : List Delivery) → next_by r.next ds ≡ Some d → length ds ≡ suc (length (without_first ds))
    by [] is = absurd (let e : ◌≡◌ {A = Option Delivery} None (Some d) = is in cc)
    by (one ∷ more) is = refl

inserted-length : (d : Delivery) (ds : List Delivery) → length (insert_delivery d ds) ≡ suc (length ds)
inserted-length d [] = refl
inserted-length d (one ∷ more) =
    cond_both (nat_lt d.id one.id) (d ∷ one ∷ more) (one ∷ insert_delivery d more)
    (λ (ds : List Delivery). length ds ≡ suc (suc (length more))) (λ _. refl)
    (λ _. ap suc (inserted-length d more))

-- one more at most
pub arrived-length : (d : Delivery) (r : Received) → length (arrive d r).waiting ≤ length r.waiting + 1
arrived-length d r =
    cond_both (has_arrived d.id r) r (record r { waiting = insert_delivery d r.waiting })
    (λ (x : Received). length x.waiting ≤ length r.waiting + 1) (λ _. omega arith)
    (λ _. (let n = inserted-length d r.waiting in omega (arith, n)))

pub values-length : {K V : Type 0} (entries : List (K × V)) → length (values_of entries) ≡ length entries
values-length [] = refl
values-length (entry ∷ entries) = ap suc (values-length entries)
