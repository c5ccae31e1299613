-- A delivery ends: its message is taken out of the parts.
use Rattle.std.proofs.Common.{◌≡◌, ℕ, ◌-◌, ◌<◌, ◌⊎◌, Bool, true, false, ◌&&◌, List, [], ◌∷◌, ◌++◌, Option, Some, None, map, refl, sym, ap, ◌∙◌, subst, inl, inr, arith}
use Rattle.std.specs.Prelude.{nat_eq, find}
use Rattle.std.specs.Option.{option_map}
use Rattle.std.specs.List.{AllByRecursion}
use Rattle.std.proofs.lemmas.Bool.{false≢true, cases_Bool, cond-true, cond-false, and_from, and_left, eq-eqb, eqb-true, ne_eqb}
use Rattle.qq_base.proofs.Lists.{In, AllByRecursion-in, AllByRecursion-append, AllByRecursion-weaker, find-in, list_any-from_in}
use Rattle.qq_base.specs.declared.ids.ConsumerId.{ConsumerId}
use Rattle.qq_base.specs.Ids.{same_consumer}
use Rattle.qq_model.specs.declared.place.Place.TheVariants.{Out}
use Rattle.qq_model.specs.declared.place.Row.{Row}
use Rattle.qq_model.specs.declared.consumer.Consumer.{Consumer}
use Rattle.qq_model.specs.State.{State}
use Rattle.qq_model.specs.Commands.{is_delivery, delivered_row}
use Rattle.qq_model.proofs.Lists.{find-none}
use Rattle.qq_model.proofs.OneConsumer.{same_consumer-true}
use Rattle.qq_parts.specs.Reduced.{Item, live_items}
use Rattle.qq_parts.proofs.Live.{gone-is}
use Rattle.qq_parts.specs.Perm.{Perm}
use Rattle.qq_parts.specs.Perm.Perm.{skip, swap, join}
use Rattle.qq_parts.specs.Parts.{Served, consumer_at, Parts, outs, items_of, frame, Stands, item_number, NumbersRise, IsPlaced, HasOut, AreTwo, AreApart, IsWhole}
use Rattle.qq_parts.specs.Reads.{ready_items}
use Rattle.qq_parts.specs.Changes.{Taken, IsTaken}
use Rattle.qq_parts.specs.Outs.{Cut, behind_item, cut_id, CutOut, out_of, behind_one, cut_out, taken_of, taken_row, MayEnd}
use Rattle.qq_parts.proofs.Perms.{perm-refl, perm-sym, perm-in, perm-each, perm-left, perm-right, perm-middle}
use Rattle.qq_parts.proofs.Turn.{item-row, each-row}
use Rattle.qq_parts.proofs.Reading.{each-ready, each-dead}

-- One list --------------------------------------------------------------------------------------------

-- an item of a number, and the others, of which none has it
pub record IsCut (P : Item → Type 0) (id : ℕ) (xs : List Item) (cut : Cut) : Type 0 where
  pub perm : Perm xs (cut.item ∷ cut.rest)
  pub number : item_number cut.item ≡ id
  pub item : P cut.item
  pub rising : NumbersRise cut.rest
  pub rest : AllByRecursion P cut.rest
  pub others : AllByRecursion (λ (y : Item). nat_eq (item_number y) id ≡ false) cut.rest

-- what is above a number isn't it
above-others : (id n : ℕ) (xs : List Item) → n ≡ id → AllByRecursion (λ (y : Item). n < item_number y) xs
    → AllByRecursion (λ (y : Item). nat_eq (item_number y) id ≡ false) xs
above-others id n xs is each =
    AllByRecursion-weaker (λ (y : Item). n < item_number y) (λ (y : Item). nat_eq (item_number y) id ≡ false)
    (λ y less. ne_eqb (item_number y) id (λ e. absurd (omega arith))) xs each

cut-behind : (P : Item → Type 0) (id : ℕ) (x : Item) (xs : List Item) (o : Option Cut) (cut : Cut)
    → nat_eq (item_number x) id ≡ false → NumbersRise (x ∷ xs) → P x → option_map (behind_item x) o ≡ Some cut
    → ((inner : Cut) → o ≡ Some inner → IsCut P id xs inner) → IsCut P id (x ∷ xs) cut
cut-behind P id x xs None cut other rising own found each = absurd cc
cut-behind P id x xs (Some inner) cut other rising own found each =
    let same : behind_item x inner ≡ cut = cc in
    let is = each inner refl in
    let above : AllByRecursion (λ (y : Item). item_number x < item_number y) (inner.item ∷ inner.rest) =
    perm-each (λ (y : Item). item_number x < item_number y) is.perm rising.0 in
    subst (IsCut P id (x ∷ xs)) same (record {
      perm =
          join (x ∷ xs) (x ∷ inner.item ∷ inner.rest) (inner.item ∷ x ∷ inner.rest)
          (skip x xs (inner.item ∷ inner.rest) is.perm) (swap x inner.item inner.rest);
      number = is.number;
      item = is.item;
      rising = (above.1, is.rising);
      rest = (own, is.rest);
      others = (other, is.others);
    })

pub is_cut : (P : Item → Type 0) (id : ℕ) (xs : List Item) (cut : Cut) → NumbersRise xs → AllByRecursion P xs
    → cut_id id xs ≡ Some cut → IsCut P id xs cut
is_cut P id [] cut rising each found = absurd cc
is_cut P id (x ∷ xs) cut rising each found =
    by (cases_Bool (nat_eq (item_number x) id)) (λ inner is. is_cut P id xs inner rising.1 each.1 is)
  where
    by : (nat_eq (item_number x) id ≡ true) ⊎ (nat_eq (item_number x) id ≡ false)
        → ((inner : Cut) → cut_id id xs ≡ Some inner → IsCut P id xs inner) → IsCut P id (x ∷ xs) cut
    by (inl here) rest =
        let e : Some (record { item = x; rest = xs }) ≡ Some cut =
        sym (cond-true (nat_eq (item_number x) id) (Some (record { item = x; rest = xs }))
        (option_map (behind_item x) (cut_id id xs)) here) ∙ found in
        let same : record { item = x; rest = xs } ≡ cut = cc in
        let own : item_number x ≡ id = eqb-true (item_number x) id here in
        subst (IsCut P id (x ∷ xs)) same (record {
          perm = perm-refl (x ∷ xs);
          number = own;
          item = each.0;
          rising = rising.1;
          rest = each.1;
          others = above-others id (item_number x) xs own rising.0;
        })
    by (inr other) rest =
        cut-behind P id x xs (cut_id id xs) cut other rising each.0
        (sym (cond-false (nat_eq (item_number x) id) (Some (record { item = x; rest = xs }))
        (option_map (behind_item x) (cut_id id xs)) other) ∙ found) rest

none-behind : (x : Item) (o : Option Cut) → option_map (behind_item x) o ≡ None → o ≡ None
none-behind x None none = refl
none-behind x (Some cut) none = absurd cc

pub none_cut : (id : ℕ) (xs : List Item) → cut_id id xs ≡ None
    → AllByRecursion (λ (y : Item). nat_eq (item_number y) id ≡ false) xs
none_cut id [] none = tt
none_cut id (x ∷ xs) none = by (cases_Bool (nat_eq (item_number x) id)) (λ rest. none_cut id xs rest)
  where
    by : (nat_eq (item_number x) id ≡ true) ⊎ (nat_eq (item_number x) id ≡ false)
        → (cut_id id xs ≡ None → AllByRecursion (λ (y : Item). nat_eq (item_number y) id ≡ false) xs)
        → AllByRecursion (λ (y : Item). nat_eq (item_number y) id ≡ false) (x ∷ xs)
    by (inl here) rest =
        let e : Some (record { item = x; rest = xs }) ≡ None =
        sym (cond-true (nat_eq (item_number x) id) (Some (record { item = x; rest = xs }))
        (option_map (behind_item x) (cut_id id xs)) here) ∙ none in
        absurd cc
    by (inr other) rest = (
      other,
      rest (none-behind x (cut_id id xs)
          (sym (cond-false (nat_eq (item_number x) id) (Some (record { item = x; rest = xs }))
          (option_map (behind_item x) (cut_id id xs)) other) ∙ none)),
    )

-- All consumers ---------------------------------------------------------------------------------------

-- no item is the delivery
abbrev pub IsOther : ConsumerId → ℕ → Item → Type 0
IsOther consumer id y = is_delivery consumer id y.row.place ≡ false

other-number : (consumer : ConsumerId) (id : ℕ) (one : Served) (xs : List Item)
    → AllByRecursion (IsPlaced (Out one.consumer.id) (one.consumer.next_id - 1)) xs
    → AllByRecursion (λ (y : Item). nat_eq (item_number y) id ≡ false) xs → AllByRecursion (IsOther consumer id) xs
other-number consumer id one [] placed other = tt
other-number consumer id one (x ∷ xs) placed other = (
  ap (is_delivery consumer id) placed.0.place ∙ and-false (same_consumer one.consumer.id consumer)
      (nat_eq (item_number x) id) other.0,
  other-number consumer id one xs placed.1 other.1,
)
  where
    and-false : (a b : Bool) → b ≡ false → (a && b) ≡ false
    and-false true b none = none
    and-false false b none = refl

other-consumer : (consumer : ConsumerId) (id : ℕ) (one : Served)
    → same_consumer one.consumer.id consumer ≡ false → HasOut one → AllByRecursion (IsOther consumer id) one.out
other-consumer consumer id one apart has =
    AllByRecursion-weaker (IsPlaced (Out one.consumer.id) (one.consumer.next_id - 1)) (IsOther consumer id)
    (λ x at.
    ap (is_delivery consumer id) at.place
    ∙ and_left (same_consumer one.consumer.id consumer) (nat_eq (item_number x) id) apart) one.out has.0.each

-- where one consumer has the id, the others haven't
others-apart : (consumer : ConsumerId) (id : ℕ) (one : Served) (ones : List Served)
    → same_consumer one.consumer.id consumer ≡ true → AllByRecursion (AreTwo one) ones → AllByRecursion HasOut ones
    → AllByRecursion (IsOther consumer id) (outs ones)
others-apart consumer id one [] is two has = tt
others-apart consumer id one (other ∷ ones) is two has =
    let own : one.consumer.id ≡ consumer = same_consumer-true one.consumer.id consumer is in
    AllByRecursion-append (IsOther consumer id) other.out (outs ones)
    (other-consumer consumer id other
    (ap (λ (c : ConsumerId). same_consumer other.consumer.id c) (sym own) ∙ two.0.1) has.0)
    (others-apart consumer id one ones is two.1 has.1)

pub record IsCutOut (consumer : ConsumerId) (id : ℕ) (ones : List Served) (cut : CutOut) : Type 0 where
  pub perm : Perm (outs ones) (cut.item ∷ outs cut.served)
  pub place : is_delivery consumer id cut.item.row.place ≡ true
  pub others : AllByRecursion (IsOther consumer id) (outs cut.served)
  pub has : AllByRecursion HasOut cut.served
  pub consumers : map consumer_at cut.served ≡ map consumer_at ones
  pub apart : AreApart cut.served
  pub two : (one : Served) → AllByRecursion (AreTwo one) ones → AllByRecursion (AreTwo one) cut.served

cut-here : (consumer : ConsumerId) (id : ℕ) (one : Served) (ones : List Served) (o : Option Cut) (cut : CutOut)
    → same_consumer one.consumer.id consumer ≡ true → AllByRecursion HasOut (one ∷ ones) → AreApart (one ∷ ones)
    → option_map (out_of one ones) o ≡ Some cut
    → ((inner : Cut) → o ≡ Some inner
    → IsCut (IsPlaced (Out one.consumer.id) (one.consumer.next_id - 1)) id one.out inner)
    → IsCutOut consumer id (one ∷ ones) cut
cut-here consumer id one ones None cut own has apart found each = absurd cc
cut-here consumer id one ones (Some inner) cut own has apart found each =
    let same : out_of one ones inner ≡ cut = cc in
    let is = each inner refl in
    let place : is_delivery consumer id inner.item.row.place ≡ true =
    ap (is_delivery consumer id) is.item.place
    ∙ and_from (same_consumer one.consumer.id consumer) (nat_eq (item_number inner.item) id) own
    (eq-eqb (item_number inner.item) id is.number) in
    subst (IsCutOut consumer id (one ∷ ones)) same (record {
      perm = perm-right (outs ones) is.perm;
      place = place;
      others =
          AllByRecursion-append (IsOther consumer id) inner.rest (outs ones)
          (other-number consumer id one inner.rest is.rest is.others)
          (others-apart consumer id one ones own apart.0 has.1);
      has = ((record { rising = is.rising; each = is.rest }, has.0.1), has.1);
      consumers = refl;
      apart = (apart.0, apart.1);
      two = λ other each. each;
    })

cut-later : (consumer : ConsumerId) (id : ℕ) (one : Served) (ones : List Served) (o : Option CutOut) (cut : CutOut)
    → same_consumer one.consumer.id consumer ≡ false → AllByRecursion HasOut (one ∷ ones) → AreApart (one ∷ ones)
    → option_map (behind_one one) o ≡ Some cut
    → ((inner : CutOut) → o ≡ Some inner → IsCutOut consumer id ones inner) → IsCutOut consumer id (one ∷ ones) cut
cut-later consumer id one ones None cut other has apart found each = absurd cc
cut-later consumer id one ones (Some inner) cut other has apart found each =
    let same : behind_one one inner ≡ cut = cc in
    let is = each inner refl in
    subst (IsCutOut consumer id (one ∷ ones)) same (record {
      perm =
          join (one.out ++ outs ones) (one.out ++ inner.item ∷ outs inner.served)
          (inner.item ∷ (one.out ++ outs inner.served)) (perm-left one.out is.perm)
          (perm-middle one.out inner.item (outs inner.served));
      place = is.place;
      others =
          AllByRecursion-append (IsOther consumer id) one.out (outs inner.served)
          (other-consumer consumer id one other has.0) is.others;
      has = (has.0, is.has);
      consumers = ap (λ (cs : List Consumer). one.consumer ∷ cs) is.consumers;
      apart = (is.two one apart.0, is.apart);
      two = λ other each. (each.0, is.two other each.1);
    })

pub is_cut_out : (consumer : ConsumerId) (id : ℕ) (ones : List Served) (cut : CutOut) → AllByRecursion HasOut ones
    → AreApart ones → cut_out consumer id ones ≡ Some cut → IsCutOut consumer id ones cut
is_cut_out consumer id [] cut has apart found = absurd cc
is_cut_out consumer id (one ∷ ones) cut has apart found =
    by (cases_Bool (same_consumer one.consumer.id consumer)) (λ inner is. is_cut_out consumer id ones inner has.1 apart.1 is)
  where
    here : Option CutOut
    here = option_map (out_of one ones) (cut_id id one.out)

    later : Option CutOut
    later = option_map (behind_one one) (cut_out consumer id ones)

    by : (same_consumer one.consumer.id consumer ≡ true) ⊎ (same_consumer one.consumer.id consumer ≡ false)
        → ((inner : CutOut) → cut_out consumer id ones ≡ Some inner → IsCutOut consumer id ones inner)
        → IsCutOut consumer id (one ∷ ones) cut
    by (inl own) rest =
        cut-here consumer id one ones (cut_id id one.out) cut own has apart
        (sym (cond-true (same_consumer one.consumer.id consumer) here later own) ∙ found)
        (λ inner is.
        is_cut (IsPlaced (Out one.consumer.id) (one.consumer.next_id - 1)) id one.out inner has.0.0.rising
        has.0.0.each is)
    by (inr other) rest =
        cut-later consumer id one ones (cut_out consumer id ones) cut other has apart
        (sym (cond-false (same_consumer one.consumer.id consumer) here later other) ∙ found) rest

none-out : (one : Served) (ones : List Served) (o : Option Cut) → option_map (out_of one ones) o ≡ None → o ≡ None
none-out one ones None none = refl
none-out one ones (Some cut) none = absurd cc

none-one : (one : Served) (o : Option CutOut) → option_map (behind_one one) o ≡ None → o ≡ None
none-one one None none = refl
none-one one (Some cut) none = absurd cc

pub none_cut_out : (consumer : ConsumerId) (id : ℕ) (ones : List Served) → AllByRecursion HasOut ones → AreApart ones
    → cut_out consumer id ones ≡ None → AllByRecursion (IsOther consumer id) (outs ones)
none_cut_out consumer id [] has apart none = tt
none_cut_out consumer id (one ∷ ones) has apart none =
    by (cases_Bool (same_consumer one.consumer.id consumer)) (λ rest. none_cut_out consumer id ones has.1 apart.1 rest)
  where
    here : Option CutOut
    here = option_map (out_of one ones) (cut_id id one.out)

    later : Option CutOut
    later = option_map (behind_one one) (cut_out consumer id ones)

    by : (same_consumer one.consumer.id consumer ≡ true) ⊎ (same_consumer one.consumer.id consumer ≡ false)
        → (cut_out consumer id ones ≡ None → AllByRecursion (IsOther consumer id) (outs ones))
        → AllByRecursion (IsOther consumer id) (one.out ++ outs ones)
    by (inl own) rest =
        AllByRecursion-append (IsOther consumer id) one.out (outs ones)
        (other-number consumer id one one.out has.0.0.each
        (none_cut id one.out (none-out one ones (cut_id id one.out)
        (sym (cond-true (same_consumer one.consumer.id consumer) here later own) ∙ none))))
        (others-apart consumer id one ones own apart.0 has.1)
    by (inr other) rest =
        AllByRecursion-append (IsOther consumer id) one.out (outs ones) (other-consumer consumer id one other has.0)
        (rest (none-one one (cut_out consumer id ones)
        (sym (cond-false (same_consumer one.consumer.id consumer) here later other) ∙ none)))

-- The queue -------------------------------------------------------------------------------------------

-- what no consumer has is no delivery
others-all : (consumer : ConsumerId) (id : ℕ) (m : Parts) (xs : List Item) → IsWhole m
    → AllByRecursion (IsOther consumer id) xs → AllByRecursion (IsOther consumer id) (ready_items m ++ (xs ++ m.dead))
others-all consumer id m xs whole others =
    AllByRecursion-append (IsOther consumer id) (ready_items m) (xs ++ m.dead)
    (each-ready (IsOther consumer id) m whole (λ x key is. ap (is_delivery consumer id) is))
    (AllByRecursion-append (IsOther consumer id) xs m.dead others
    (each-dead (IsOther consumer id) m whole (λ x number reason is. ap (is_delivery consumer id) is)))

pub find-only : (test : Row → Bool) (rows : List Row) (row : Row) → In row rows → test row ≡ true
    → AllByRecursion (λ (other : Row). (other ≡ row) ⊎ (test other ≡ false)) rows → find test rows ≡ Some row
find-only test rows row here passes only = by (find test rows) refl
  where
    by : (o : Option Row) → find test rows ≡ o → o ≡ Some row
    by None is =
        absurd (false≢true (sym (find-none test rows is) ∙ list_any-from_in test row rows here passes))
    by (Some other) is =
        let found = find-in test rows other is in
        elim (AllByRecursion-in (λ (one : Row). (one ≡ row) ⊎ (test one ≡ false)) other rows only found.0) [
          | inl same ↦ ap (λ (one : Row). Some one) same
          | inr fails ↦ absurd (false≢true (sym fails ∙ found.1))
        ]

pub find-nothing : (test : Row → Bool) (rows : List Row) → AllByRecursion (λ (other : Row). test other ≡ false) rows
    → find test rows ≡ None
find-nothing test [] none = refl
find-nothing test (row ∷ rows) none =
    cond-false (test row) (Some row) (find test rows) none.0 ∙ find-nothing test rows none.1

cut-perm : (m : Parts) (cut : CutOut) → Perm (outs m.served) (cut.item ∷ outs cut.served)
    → Perm (items_of m) (cut.item ∷ items_of (record m { served = cut.served }))
cut-perm m cut perm =
    join (items_of m) (ready_items m ++ (cut.item ∷ (outs cut.served ++ m.dead)))
    (cut.item ∷ (ready_items m ++ (outs cut.served ++ m.dead)))
    (perm-left (ready_items m) (perm-right m.dead perm))
    (perm-middle (ready_items m) cut.item (outs cut.served ++ m.dead))

pub end-taken : (consumer : ConsumerId) (id : ℕ) (m : Parts) (s : State) (cut : CutOut) → Stands m s → IsWhole m
    → IsCutOut consumer id m.served cut → IsTaken (taken_of m cut) m s
end-taken consumer id m s cut stands whole is =
    let left : Parts = record m { served = cut.served } in
    let same : frame m ≡ frame left =
    ap (λ (cs : List Consumer). record (m.rest) { rows = []; messages = []; consumers = cs }) (sym is.consumers) in
    record {
      stands = record {
        rest = stands.rest ∙ ap (λ (t : State). record t { rows = s.rows; messages = s.messages }) same;
        perm =
            join (live_items s.rows s.messages) (items_of m) (cut.item ∷ items_of left) stands.perm
            (cut-perm m cut is.perm);
        rising = stands.rising;
        long = stands.long;
      };
      whole = record {
        fronts = whole.fronts;
        backs = whole.backs;
        served = is.has;
        apart = is.apart;
        dead = whole.dead;
      };
    }

found-by : (consumer : ConsumerId) (id : ℕ) (m : Parts) (s : State) (o : Option CutOut) → Stands m s → IsWhole m
    → cut_out consumer id m.served ≡ o
    → delivered_row consumer id s.rows ≡ option_map taken_row (option_map (taken_of m) o)
found-by consumer id m s None stands whole none =
    find-nothing (λ (row : Row). is_delivery consumer id row.place) s.rows
    (each-row m s (λ (row : Row). is_delivery consumer id row.place ≡ false) stands
    (λ row gone. gone-is (λ place. is_delivery consumer id place ≡ false) (λ reason. refl) row.place gone)
    (others-all consumer id m (outs m.served) whole
    (none_cut_out consumer id m.served whole.served whole.apart none)))
found-by consumer id m s (Some cut) stands whole found =
    let is = is_cut_out consumer id m.served cut whole.served whole.apart found in
    let test : Row → Bool = λ row. is_delivery consumer id row.place in
    let perm = cut-perm m cut is.perm in
    let only : Item → Type 0 = λ y. (y.row ≡ cut.item.row) ⊎ (test y.row ≡ false) in
    let each : AllByRecursion only (items_of m) =
    perm-each only (perm-sym perm) (
      inl refl,
      AllByRecursion-weaker (IsOther consumer id) only (λ y other. inr other)
          (ready_items m ++ (outs cut.served ++ m.dead)) (others-all consumer id m (outs cut.served) whole is.others),
    ) in
    let here =
    item-row m s cut.item stands
    (perm-in cut.item (perm-sym perm) (inl refl)) in
    find-only test s.rows cut.item.row here.0 is.place
    (each-row m s (λ (row : Row). (row ≡ cut.item.row) ⊎ (test row ≡ false)) stands
    (λ row gone. inr (gone-is (λ place. is_delivery consumer id place ≡ false) (λ reason. refl) row.place gone)) each)

taken-some : (consumer : ConsumerId) (id : ℕ) (m : Parts) (s : State) (o : Option CutOut) (taken : Taken)
    → Stands m s → IsWhole m → cut_out consumer id m.served ≡ o → option_map (taken_of m) o ≡ Some taken
    → IsTaken taken m s
taken-some consumer id m s None taken stands whole is found = absurd cc
taken-some consumer id m s (Some cut) taken stands whole is found =
    let same : taken_of m cut ≡ taken = cc in
    subst (λ (t : Taken). IsTaken t m s) same
    (end-taken consumer id m s cut stands whole (is_cut_out consumer id m.served cut whole.served whole.apart is))

pub may_end : (consumer : ConsumerId) (id : ℕ) (m : Parts) (s : State) → Stands m s → IsWhole m
    → MayEnd consumer id m s
may_end consumer id m s stands whole = record {
  found = found-by consumer id m s (cut_out consumer id m.served) stands whole refl;
  taken = λ taken is. taken-some consumer id m s (cut_out consumer id m.served) taken stands whole refl is;
}
