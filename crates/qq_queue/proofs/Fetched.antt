-- What a machine fetches is what is out with a consumer by the definition.
use Rattle.std.proofs.Common.{◌≡◌, ◌⊎◌, ℕ, zero, suc, ◌+◌, ◌-◌, ◌<◌, ◌≤◌, Bool, true, false, cond, List, [], ◌∷◌, ◌++◌, map, filter, Option, Some, None, refl, sym, ap, ◌∙◌, subst, inl, inr, arith}
use Rattle.std.specs.Prelude.{filter_map, find, nat_eq}
use Rattle.std.specs.List.{AllByRecursion, cons_option, range_with_len}
use Rattle.std.specs.Option.{option_map}
use Rattle.std.proofs.lemmas.Bool.{cases_Bool, cases_lt, cond-true, cond-false, eqb-true, eqb-false, le-leb, lt-leb, leb-false, leb-true, ne_eqb}
use Rattle.qq_base.proofs.Lists.{In, AllByRecursion-in, In-append_left, In-append_right}
use Rattle.qq_base.specs.Ids.{same_consumer}
use Rattle.qq_base.specs.declared.ids.ConsumerId.{ConsumerId}
use Rattle.qq_consuming.specs.Fetched.{given_ids, out_delivery, out_from}
use Rattle.qq_entry.specs.declared.answer.Delivery.{Delivery}
use Rattle.qq_machine.specs.Reads.{delivery_of as delivery_in, fetched, is_from}
use Rattle.qq_model.specs.declared.consumer.Consumer.{Consumer}
use Rattle.qq_model.specs.declared.place.Place.TheVariants.{Out}
use Rattle.qq_model.specs.State.{State}
use Rattle.qq_model.specs.Changes.{consumer_of, delivery_of, message_of}
use Rattle.qq_consumer.specs.Roster.{one_of}
use Rattle.qq_parts.specs.Reduced.{Item}
use Rattle.qq_parts.specs.Reads.{Reads}
use Rattle.qq_parts.specs.Parts.{HasOut, IsPlaced, IsWhole, NumbersRise, Parts, Served, Stands, consumer_at, item_number, items_of, outs}
use Rattle.qq_parts.specs.Outs.{Cut, CutOut, MayEnd, behind_item, behind_one, cut_id, cut_out, out_of, taken_of, taken_row}

-- ---- items by their numbers

abbrev item_of : ℕ → List Item → Option Item
item_of id xs = find (λ (x : Item). nat_eq (item_number x) id) xs

abbrev Above : ℕ → List Item → Type 0
Above n xs = AllByRecursion (λ (x : Item). n < item_number x) xs

above-same : (n : ℕ) (xs : List Item) → Above n xs → filter (is_from (n + 1)) xs ≡ filter (is_from n) xs
above-same n [] each = refl
above-same n (x ∷ xs) each =
    let lt = each.0 in
    cond-true (is_from (n + 1) x) (x ∷ filter (is_from (n + 1)) xs) (filter (is_from (n + 1)) xs)
    (le-leb (n + 1) (item_number x) (omega (arith, lt)))
    ∙ ap (λ (l : List Item). x ∷ l) (above-same n xs each.1)
    ∙ sym (cond-true (is_from n x) (x ∷ filter (is_from n) xs) (filter (is_from n) xs)
    (le-leb n (item_number x) (omega (arith, lt))))

above-none : (n : ℕ) (xs : List Item) → Above n xs → item_of n xs ≡ None
above-none n [] each = refl
above-none n (x ∷ xs) each =
    let lt = each.0 in
    cond-false (nat_eq (item_number x) n) (Some x) (item_of n xs)
    (ne_eqb (item_number x) n (λ same. omega (arith, lt, same))) ∙ above-none n xs each.1

above-later : (n m : ℕ) (xs : List Item) → n ≤ m → Above m xs → Above n xs
above-later n m [] le each = tt
above-later n m (x ∷ xs) le each = ((let lt = each.0 in omega (arith, le, lt)), above-later n m xs le each.1)

-- the items from a number on are the one of that number, and those from the next number on
from-splits : (n : ℕ) (xs : List Item) → NumbersRise xs
    → cons_option (item_of n xs) (filter (is_from (n + 1)) xs) ≡ filter (is_from n) xs
from-splits n [] rise = refl
from-splits n (x ∷ xs) rise =
    elim (cases_Bool (nat_eq (item_number x) n)) [
      | inl here ↦
          let is : item_number x ≡ n = eqb-true (item_number x) n here in
          let above : Above n xs =
          subst (λ (k : ℕ). AllByRecursion (λ (y : Item). k < item_number y) xs) is rise.0 in
          ap (λ (o : Option Item). cons_option o (filter (is_from (n + 1)) (x ∷ xs)))
          (cond-true (nat_eq (item_number x) n) (Some x) (item_of n xs) here)
          ∙ ap (λ (l : List Item). x ∷ l)
          (cond-false (is_from (n + 1) x) (x ∷ filter (is_from (n + 1)) xs) (filter (is_from (n + 1)) xs)
          (lt-leb (n + 1) (item_number x) (omega (arith, is))) ∙ above-same n xs above)
          ∙ sym (cond-true (is_from n x) (x ∷ filter (is_from n) xs) (filter (is_from n) xs)
          (le-leb n (item_number x) (omega (arith, is))))
      | inr other ↦
          ap (λ (o : Option Item). cons_option o (filter (is_from (n + 1)) (x ∷ xs)))
          (cond-false (nat_eq (item_number x) n) (Some x) (item_of n xs) other)
          ∙ apart (cases_Bool (is_from n x)) (eqb-false (item_number x) n other) (from-splits n xs rise.1)
    ]
  where
    apart : ((is_from n x ≡ true) ⊎ (is_from n x ≡ false)) → (item_number x ≡ n → ⊥)
        → cons_option (item_of n xs) (filter (is_from (n + 1)) xs) ≡ filter (is_from n) xs
        → cons_option (item_of n xs) (filter (is_from (n + 1)) (x ∷ xs)) ≡ filter (is_from n) (x ∷ xs)
    apart (inl from) other rest =
        let le : n ≤ item_number x = leb-true n (item_number x) from in
        let lt : n < item_number x =
        elim (cases_lt n (item_number x)) [
          | inl less ↦ less
          | inr back ↦ absurd (other (omega (arith, le, back)))
        ] in
        let later : Above n xs =
        above-later n (item_number x) xs le rise.0 in
        ap (λ (o : Option Item). cons_option o (filter (is_from (n + 1)) (x ∷ xs))) (above-none n xs later)
        ∙ cond-true (is_from (n + 1) x) (x ∷ filter (is_from (n + 1)) xs) (filter (is_from (n + 1)) xs)
        (le-leb (n + 1) (item_number x) (omega (arith, lt)))
        ∙ ap (λ (l : List Item). x ∷ l) (above-same n xs later)
        ∙ sym (cond-true (is_from n x) (x ∷ filter (is_from n) xs) (filter (is_from n) xs) from)
    apart (inr before) other rest =
        let lt : item_number x < n = leb-false n (item_number x) before in
        ap (λ (l : List Item). cons_option (item_of n xs) l)
        (cond-false (is_from (n + 1) x) (x ∷ filter (is_from (n + 1)) xs) (filter (is_from (n + 1)) xs)
        (lt-leb (n + 1) (item_number x) (omega (arith, lt))))
        ∙ rest
        ∙ sym (cond-false (is_from n x) (x ∷ filter (is_from n) xs) (filter (is_from n) xs) before)

none-from : (n : ℕ) (xs : List Item) → AllByRecursion (λ (x : Item). item_number x < n) xs
    → filter (is_from n) xs ≡ []
none-from n [] each = refl
none-from n (x ∷ xs) each =
    cond-false (is_from n x) (x ∷ filter (is_from n) xs) (filter (is_from n) xs) (lt-leb n (item_number x) each.0)
    ∙ none-from n xs each.1

map-cons : {A B : Type 0} (f : A → B) (o : Option A) (xs : List A)
    → cons_option (option_map f o) (map f xs) ≡ map f (cons_option o xs)
map-cons f None xs = refl
map-cons f (Some x) xs = refl

-- by their numbers from one on, in order
by-number : (show : Item → Delivery) (n from : ℕ) (xs : List Item) → NumbersRise xs
    → AllByRecursion (λ (x : Item). item_number x < from + n) xs
    → filter_map (λ (id : ℕ). option_map show (item_of id xs)) (range_with_len from n)
    ≡ map show (filter (is_from from) xs)
by-number show zero from xs rise below =
    sym (ap (map show) (none-from from xs
    (subst (λ (k : ℕ). AllByRecursion (λ (x : Item). item_number x < k) xs)
    (let e : from + 0 ≡ from = omega arith in e) below)))
by-number show (suc n) from xs rise below =
    ap (cons_option (option_map show (item_of from xs)))
    (by-number show n (from + 1) xs rise
    (subst (λ (k : ℕ). AllByRecursion (λ (x : Item). item_number x < k) xs)
    (let e : from + suc n ≡ (from + 1) + n = omega arith in e) below))
    ∙ map-cons show (item_of from xs) (filter (is_from (from + 1)) xs) ∙ ap (map show) (from-splits from xs rise)

-- ---- the consumer of an id

consumer-found : (id : ConsumerId) (ones : List Served)
    → consumer_of id (map consumer_at ones) ≡ option_map consumer_at (one_of id ones)
consumer-found id [] = refl
consumer-found id (one ∷ ones) = by (same_consumer one.consumer.id id) (consumer-found id ones)
  where
    by : (b : Bool) → consumer_of id (map consumer_at ones) ≡ option_map consumer_at (one_of id ones)
        → cond b (Some one.consumer) (consumer_of id (map consumer_at ones))
        ≡ option_map consumer_at (cond b (Some one) (one_of id ones))
    by true rest = refl
    by false rest = rest

one-in : (id : ConsumerId) (ones : List Served) (one : Served) → one_of id ones ≡ Some one → In one ones
one-in id [] one is = absurd (let e : ◌≡◌ {A = Option Served} None (Some one) = is in cc)
one-in id (first ∷ ones) one is = by (same_consumer first.consumer.id id) (one-in id ones one) is
  where
    by : (b : Bool) → (one_of id ones ≡ Some one → In one ones) → cond b (Some first) (one_of id ones) ≡ Some one
        → In one (first ∷ ones)
    by true rest e = (let same : first ≡ one = cc in inl (sym same))
    by false rest e = inr (rest e)

cut-item : (id : ℕ) (xs : List Item) → option_map (λ (cut : Cut). cut.item) (cut_id id xs) ≡ item_of id xs
cut-item id [] = refl
cut-item id (x ∷ xs) = by (nat_eq (item_number x) id) (cut_id id xs) (cut-item id xs)
  where
    by : (b : Bool) (o : Option Cut) → option_map (λ (cut : Cut). cut.item) o ≡ item_of id xs
        → option_map (λ (cut : Cut). cut.item)
        (cond b (Some (record { item = x; rest = xs })) (option_map (behind_item x) o))
        ≡ cond b (Some x) (item_of id xs)
    by true o rest = refl
    by false None rest = rest
    by false (Some cut) rest = rest

out-item : (id : ℕ) (consumer : ConsumerId) (ones : List Served) (one : Served) → one_of consumer ones ≡ Some one
    → option_map (λ (cut : CutOut). cut.item) (cut_out consumer id ones) ≡ item_of id one.out
out-item id consumer [] one is = absurd (let e : ◌≡◌ {A = Option Served} None (Some one) = is in cc)
out-item id consumer (first ∷ ones) one is =
    by (same_consumer first.consumer.id consumer) (out-item id consumer ones one) is
  where
    own : (o : Option Cut) → option_map (λ (cut : CutOut). cut.item) (option_map (out_of first ones) o)
        ≡ option_map (λ (cut : Cut). cut.item) o
    own None = refl
    own (Some cut) = refl

    other : (o : Option CutOut) → option_map (λ (cut : CutOut). cut.item) (option_map (behind_one first) o)
        ≡ option_map (λ (cut : CutOut). cut.item) o
    other None = refl
    other (Some cut) = refl

    by : (b : Bool)
        → (one_of consumer ones ≡ Some one
        → option_map (λ (cut : CutOut). cut.item) (cut_out consumer id ones) ≡ item_of id one.out)
        → cond b (Some first) (one_of consumer ones) ≡ Some one
        → option_map (λ (cut : CutOut). cut.item)
        (cond b (option_map (out_of first ones) (cut_id id first.out))
        (option_map (behind_one first) (cut_out consumer id ones)))
        ≡ item_of id one.out
    by true rest e =
        let same : first ≡ one = cc in
        own (cut_id id first.out) ∙ cut-item id first.out ∙ ap (λ (x : Served). item_of id x.out) same
    by false rest e = other (cut_out consumer id ones) ∙ rest e

-- ---- what is out

-- the delivery of an id is that of the consumer's own list
delivery-found : (m : Parts) (s : State) (consumer : ConsumerId) (id : ℕ) (one : Served) → MayEnd consumer id m s
    → one_of consumer m.served ≡ Some one
    → out_delivery s consumer id ≡ option_map (λ (x : Item). delivery_of s id x.row) (item_of id one.out)
delivery-found m s consumer id one may is =
    ap (option_map (delivery_of s id)) may.found ∙ by (cut_out consumer id m.served)
    ∙ ap (option_map (λ (x : Item). delivery_of s id x.row)) (out-item id consumer m.served one is)
  where
    by : (o : Option CutOut)
        → option_map (delivery_of s id) (option_map taken_row (option_map (taken_of m) o))
        ≡ option_map (λ (x : Item). delivery_of s id x.row) (option_map (λ (cut : CutOut). cut.item) o)
    by None = refl
    by (Some cut) = refl

found-number : (id : ℕ) (xs : List Item) (x : Item) → item_of id xs ≡ Some x → In x xs × (item_number x ≡ id)
found-number id [] x is = absurd (let e : ◌≡◌ {A = Option Item} None (Some x) = is in cc)
found-number id (first ∷ xs) x is = by (cases_Bool (nat_eq (item_number first) id)) (found-number id xs x)
  where
    by : ((nat_eq (item_number first) id ≡ true) ⊎ (nat_eq (item_number first) id ≡ false))
        → (item_of id xs ≡ Some x → In x xs × (item_number x ≡ id)) → In x (first ∷ xs) × (item_number x ≡ id)
    by (inl here) rest =
        let e : Some first ≡ Some x =
        sym (cond-true (nat_eq (item_number first) id) (Some first) (item_of id xs) here) ∙ is in
        let same : first ≡ x = cc in
        (inl (sym same), ap item_number (sym same) ∙ eqb-true (item_number first) id here)
    by (inr other) rest =
        let r = rest (sym (cond-false (nat_eq (item_number first) id) (Some first) (item_of id xs) other) ∙ is) in
        (inr r.0, r.1)

-- it shows its own message
delivery-shown : (s : State) (id : ℕ) (xs : List Item)
    → ((x : Item) → In x xs → message_of s.rows s.messages x.row ≡ x.message)
    → option_map (λ (x : Item). delivery_of s id x.row) (item_of id xs) ≡ option_map delivery_in (item_of id xs)
delivery-shown s id xs messages = by (item_of id xs) refl
  where
    by : (o : Option Item) → item_of id xs ≡ o
        → option_map (λ (x : Item). delivery_of s id x.row) o ≡ option_map delivery_in o
    by None is = refl
    by (Some x) is =
        let f = found-number id xs x is in
        ap (λ (n : ℕ). Some (delivery_of s n x.row)) (sym f.1)
        ∙ ap (λ (message : _). let d : Delivery = record {
          index = x.row.index;
          arrival = x.row.arrival;
          id = item_number x;
          count = x.row.count;
          message = message;
        } in Some d) (messages x f.0)

filter_map-same : {A B : Type 0} (f g : A → Option B) → ((x : A) → f x ≡ g x) → (xs : List A)
    → filter_map f xs ≡ filter_map g xs
filter_map-same f g same [] = refl
filter_map-same f g same (x ∷ xs) =
    ap (λ (o : Option _). cons_option o (filter_map f xs)) (same x)
    ∙ ap (cons_option (g x)) (filter_map-same f g same xs)

in-outs : (x : Item) (one : Served) (ones : List Served) → In one ones → In x one.out → In x (outs ones)
in-outs x one [] here there = absurd here
in-outs x one (first ∷ ones) (inl same) there =
    In-append_left x first.out (outs ones) (subst (λ (o : Served). In x o.out) same there)
in-outs x one (first ∷ ones) (inr later) there =
    In-append_right x first.out (outs ones) (in-outs x one ones later there)

drawn-below : (one : Served) (xs : List Item) (bound : ℕ) → one.consumer.next_id - 1 < bound
    → AllByRecursion (IsPlaced (Out one.consumer.id) (one.consumer.next_id - 1)) xs
    → AllByRecursion (λ (x : Item). item_number x < bound) xs
drawn-below one [] bound lt each = tt
drawn-below one (x ∷ xs) bound lt each =
    ((let le = each.0.drawn in omega (arith, lt, le)), drawn-below one xs bound lt each.1)

pub fetched-out : (m : Parts) (s : State) (consumer : ConsumerId) (from : ℕ) → Stands m s → IsWhole m → Reads m s
    → ((id : ℕ) → MayEnd consumer id m s)
    → fetched from (one_of consumer m.served) ≡ out_from s consumer from
fetched-out m s consumer from stands whole reads may =
    by (one_of consumer m.served) refl
    ∙ sym (ap (λ (o : Option Consumer). filter_map (out_delivery s consumer) (given_ids from o)) consumers)
  where
    consumers : consumer_of consumer s.consumers ≡ option_map consumer_at (one_of consumer m.served)
    consumers = ap (λ (x : State). consumer_of consumer x.consumers) stands.rest ∙ consumer-found consumer m.served

    by : (o : Option Served) → one_of consumer m.served ≡ o
        → fetched from o
        ≡ filter_map (out_delivery s consumer) (given_ids from (option_map consumer_at o))
    by None is = refl
    by (Some one) is =
        let here : In one m.served = one-in consumer m.served one is in
        let has : HasOut one = AllByRecursion-in HasOut one m.served whole.served here in
        let positive = has.1 in
        let ids : List ℕ = range_with_len from (one.consumer.next_id - from) in
        let messages : (x : Item) → In x one.out → message_of s.rows s.messages x.row ≡ x.message =
        λ x there. AllByRecursion-in (λ (y : Item). message_of s.rows s.messages y.row ≡ y.message) x (items_of m)
        reads.message (In-append_right x (m.fronts ++ m.backs) (outs m.served ++ m.dead)
        (In-append_left x (outs m.served) m.dead (in-outs x one m.served here there))) in
        sym (filter_map-same (out_delivery s consumer) (λ (id : ℕ). option_map delivery_in (item_of id one.out))
        (λ id. delivery-found m s consumer id one (may id) is ∙ delivery-shown s id one.out messages) ids
        ∙ by-number delivery_in (one.consumer.next_id - from) from one.out has.0.rising
        (drawn-below one one.out (from + (one.consumer.next_id - from)) (omega (arith, positive)) has.0.each))
