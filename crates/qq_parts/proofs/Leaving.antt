-- Consumers change, and leave.
use Rattle.std.proofs.Common.{◌≡◌, ◌-◌, ◌<◌, ◌⊎◌, Bool, true, false, not, ◌&&◌, cond, List, [], ◌∷◌, ◌++◌, map, length, refl, sym, ap, ◌∙◌, subst, inl, inr, arith, if◌then◌else◌}
use Rattle.std.specs.Prelude.{nat_eq, filter}
use Rattle.std.specs.List.{AllByRecursion}
use Rattle.std.proofs.lemmas.Bool.{false≢true, cases_Bool, cond-true, cond-false, cond_both, and_parts, eqb-true}
use Rattle.qq_base.proofs.Lists.{In, AllByRecursion-in, AllByRecursion-filter, AllByRecursion-map}
use Rattle.qq_base.specs.declared.ids.ConsumerId.{ConsumerId}
use Rattle.qq_base.specs.Ids.{same_consumer}
use Rattle.qq_model.specs.declared.place.Place.TheVariants.{Out}
use Rattle.qq_model.specs.declared.consumer.Consumer.{Consumer}
use Rattle.qq_model.specs.State.{State}
use Rattle.qq_model.specs.Changes.{put_consumer, is_needed}
use Rattle.qq_model.specs.Commands.{is_of_session}
use Rattle.qq_model.proofs.Lists.{AllByRecursion-from_in}
use Rattle.qq_model.proofs.OneConsumer.{same_consumer-true}
use Rattle.qq_model.proofs.Soundness.{in_contains}
use Rattle.qq_parts.specs.Reduced.{Item, live_items}
use Rattle.qq_parts.specs.Perm.{Perm}
use Rattle.qq_parts.specs.Parts.{Served, consumer_at, Parts, outs, Stands, ArePlaced, HasOut, AreTwo, AreApart, IsWhole}
use Rattle.qq_parts.specs.Reads.{ready_items}
use Rattle.qq_parts.specs.Changes.{Holds}
use Rattle.qq_parts.specs.Consumers.{change_one, MayChange, keep_ones, needed_one, MayFinish, stays_one, MayGo, ConsumersChange}
use Rattle.qq_parts.proofs.Reading.{out-is}
use Rattle.qq_parts.proofs.Waiting.{one-id}

-- the same parts with other consumers, with the same out lists
holds-with : (m : Parts) (s : State) (served : List Served) (consumers : List Consumer) → Stands m s → IsWhole m
    → outs served ≡ outs m.served → consumers ≡ map consumer_at served → AllByRecursion HasOut served
    → AreApart served → Holds (record m { served = served }) (record s { consumers = consumers })
holds-with m s served consumers stands whole same are has apart = record {
  stands = record {
    rest =
        ap (λ (t : State). record t { consumers = consumers }) stands.rest
        ∙ ap (λ (cs : List Consumer).
        record (m.rest) { rows = s.rows; messages = s.messages; consumers = cs }) are;
    perm =
        subst (λ (xs : List Item). Perm (live_items s.rows s.messages) (ready_items m ++ (xs ++ m.dead))) (sym same)
        stands.perm;
    rising = stands.rising;
    long = stands.long;
  };
  whole = record { fronts = whole.fronts; backs = whole.backs; served = has; apart = apart; dead = whole.dead };
}

-- A change --------------------------------------------------------------------------------------------

one-out : (new : Consumer) (one : Served) → (change_one new one).out ≡ one.out
one-out new one = by (same_consumer one.consumer.id new.id)
  where
    by : (b : Bool) → (if b then record { consumer = new; out = one.out } else one).out ≡ one.out
    by true = refl
    by false = refl

change-outs : (new : Consumer) (ones : List Served) → outs (map (change_one new) ones) ≡ outs ones
change-outs new [] = refl
change-outs new (one ∷ ones) =
    ap (λ (xs : List Item). xs ++ outs (map (change_one new) ones)) (one-out new one)
    ∙ ap (λ (xs : List Item). one.out ++ xs) (change-outs new ones)

change-consumers : (new : Consumer) (ones : List Served)
    → put_consumer new (map consumer_at ones) ≡ map consumer_at (map (change_one new) ones)
change-consumers new [] = refl
change-consumers new (one ∷ ones) =
    ap (λ (c : Consumer). c ∷ put_consumer new (map consumer_at ones)) (by (same_consumer one.consumer.id new.id))
    ∙ ap (λ (cs : List Consumer). (change_one new one).consumer ∷ cs) (change-consumers new ones)
  where
    by : (b : Bool) → (if b then new else one.consumer)
        ≡ (if b then record { consumer = new; out = one.out } else one).consumer
    by true = refl
    by false = refl

one-id_same : (new : Consumer) (one : Served) → (change_one new one).consumer.id ≡ one.consumer.id
one-id_same new one = by (same_consumer one.consumer.id new.id) refl
  where
    by : (b : Bool) → same_consumer one.consumer.id new.id ≡ b
        → (if b then record { consumer = new; out = one.out } else one).consumer.id ≡ one.consumer.id
    by true is = sym (same_consumer-true one.consumer.id new.id is)
    by false is = refl

two-change : (new : Consumer) (a b : Served) → AreTwo a b → AreTwo (change_one new a) (change_one new b)
two-change new a b two =
    let first = one-id_same new a in
    let second = one-id_same new b in (
      ap (λ (c : ConsumerId). same_consumer c (change_one new b).consumer.id) first
          ∙ ap (same_consumer a.consumer.id) second ∙ two.0,
      ap (λ (c : ConsumerId). same_consumer c (change_one new a).consumer.id) second
          ∙ ap (same_consumer b.consumer.id) first ∙ two.1,
    )

apart-change : (new : Consumer) (ones : List Served) → AreApart ones → AreApart (map (change_one new) ones)
apart-change new [] apart = tt
apart-change new (one ∷ ones) apart = (
  AllByRecursion-map (AreTwo one) (AreTwo (change_one new one)) (change_one new) ones
      (λ other two. two-change new one other two) apart.0,
  apart-change new ones apart.1,
)

has-change : (new : Consumer) (one : Served)
    → (same_consumer one.consumer.id new.id ≡ true → new.next_id ≡ one.consumer.next_id) → HasOut one
    → HasOut (change_one new one)
has-change new one next has = by (same_consumer one.consumer.id new.id) refl
  where
    by : (b : Bool) → same_consumer one.consumer.id new.id ≡ b
        → HasOut (if b then record { consumer = new; out = one.out } else one)
    by true is =
        let id : one.consumer.id ≡ new.id = same_consumer-true one.consumer.id new.id is in
        let n : one.consumer.next_id ≡ new.next_id = sym (next is) in (
          subst (λ (c : ConsumerId). ArePlaced (Out c) (new.next_id - 1) one.out) id
              (subst (λ k. ArePlaced (Out one.consumer.id) (k - 1) one.out) n has.0),
          subst (λ k. 0 < k) n has.1,
        )
    by false is = has

-- the queue's consumers are those of the parts
consumers-are : (m : Parts) (s : State) → Stands m s → s.consumers ≡ map consumer_at m.served
consumers-are m s stands = ap (λ (t : State). t.consumers) stands.rest

pub may_change : (m : Parts) (s : State) → Stands m s → IsWhole m → MayChange m s
may_change m s stands whole old new there id next =
    let here : In old m.served = in_contains m.served old there in
    let each : AllByRecursion (λ (one : Served). HasOut (change_one new one)) m.served =
    AllByRecursion-from_in (λ (one : Served). HasOut (change_one new one)) m.served
    (λ one within.
    has-change new one
    (λ same. next ∙ ap (λ (k : Served). k.consumer.next_id)
    (sym (one-id old one m.served whole.apart here within (ap (same_consumer one.consumer.id) (sym id) ∙ same))))
    (AllByRecursion-in HasOut one m.served whole.served within)) in
    holds-with m s (map (change_one new) m.served) (put_consumer new s.consumers) stands whole
    (change-outs new m.served)
    (ap (put_consumer new) (consumers-are m s stands) ∙ change-consumers new m.served)
    (AllByRecursion-map (λ (one : Served). HasOut (change_one new one)) HasOut (change_one new) m.served (λ one it. it)
    each) (apart-change new m.served whole.apart)

-- Leaving ---------------------------------------------------------------------------------------------

keep-outs : (stays : Served → Bool) (ones : List Served)
    → AllByRecursion (λ (one : Served). (stays one ≡ true) ⊎ (one.out ≡ [])) ones
    → outs (filter stays ones) ≡ outs ones
keep-outs stays [] each = refl
keep-outs stays (one ∷ ones) each =
    let rest = keep-outs stays ones each.1 in
    elim (cases_Bool (stays one)) [
      | inl is ↦
          ap outs (cond-true (stays one) (one ∷ filter stays ones) (filter stays ones) is)
          ∙ ap (λ (xs : List Item). one.out ++ xs) rest
      | inr goes ↦ elim (each.0) [
        | inl is ↦ absurd (false≢true (sym goes ∙ is))
        | inr empty ↦
            ap outs (cond-false (stays one) (one ∷ filter stays ones) (filter stays ones) goes) ∙ rest
            ∙ sym (ap (λ (xs : List Item). xs ++ outs ones) empty)
      ]
    ]

keep-consumers : (stays : Served → Bool) (keeps : Consumer → Bool) (ones : List Served)
    → AllByRecursion (λ (one : Served). stays one ≡ keeps one.consumer) ones
    → map consumer_at (filter stays ones) ≡ filter keeps (map consumer_at ones)
keep-consumers stays keeps [] each = refl
keep-consumers stays keeps (one ∷ ones) each =
    by (stays one) (keep-consumers stays keeps ones each.1)
    ∙ ap (λ (b : Bool). cond b (one.consumer ∷ filter keeps (map consumer_at ones)) (filter keeps (map consumer_at ones)))
    each.0
  where
    by : (b : Bool) → map consumer_at (filter stays ones) ≡ filter keeps (map consumer_at ones)
        → map consumer_at (cond b (one ∷ filter stays ones) (filter stays ones))
        ≡ cond b (one.consumer ∷ filter keeps (map consumer_at ones)) (filter keeps (map consumer_at ones))
    by true rest = ap (λ (cs : List Consumer). one.consumer ∷ cs) rest
    by false rest = rest

keep-apart : (stays : Served → Bool) (ones : List Served) → AreApart ones → AreApart (filter stays ones)
keep-apart stays [] apart = tt
keep-apart stays (one ∷ ones) apart =
    let rest = keep-apart stays ones apart.1 in
    cond_both (stays one) (one ∷ filter stays ones) (filter stays ones) AreApart
    (λ _. (AllByRecursion-filter (AreTwo one) stays ones apart.0, rest)) (λ _. rest)

holds-keep : (m : Parts) (s : State) (stays : Served → Bool) (keeps : Consumer → Bool) → Stands m s → IsWhole m
    → AllByRecursion (λ (one : Served). (stays one ≡ true) ⊎ (one.out ≡ [])) m.served
    → AllByRecursion (λ (one : Served). stays one ≡ keeps one.consumer) m.served
    → Holds (keep_ones stays m) (record s { consumers = filter keeps s.consumers })
holds-keep m s stays keeps stands whole empty same =
    holds-with m s (filter stays m.served) (filter keeps s.consumers) stands whole (keep-outs stays m.served empty)
    (ap (filter keeps) (consumers-are m s stands) ∙ sym (keep-consumers stays keeps m.served same))
    (AllByRecursion-filter HasOut stays m.served whole.served) (keep-apart stays m.served whole.apart)

none-out : (xs : List Item) → nat_eq (length xs) 0 ≡ true → xs ≡ []
none-out [] none = refl
none-out (x ∷ xs) none = let zero : length (x ∷ xs) ≡ 0 = eqb-true (length (x ∷ xs)) 0 none in absurd (omega arith)

needed-or_empty : (one : Served) → (needed_one one ≡ true) ⊎ (one.out ≡ [])
needed-or_empty one = elim (cases_Bool (one.consumer.cancelled && nat_eq (length one.out) 0)) [
  | inl over ↦
      inr (none-out one.out (and_parts one.consumer.cancelled (nat_eq (length one.out) 0) over).1)
  | inr needed ↦ inl (ap not needed)
]

pub may_finish : (m : Parts) (s : State) → Stands m s → IsWhole m → MayFinish m s
may_finish m s stands whole =
    holds-keep m s needed_one (is_needed s.rows) stands whole
    (AllByRecursion-from_in (λ (one : Served). (needed_one one ≡ true) ⊎ (one.out ≡ [])) m.served
    (λ one here. needed-or_empty one))
    (AllByRecursion-from_in (λ (one : Served). needed_one one ≡ is_needed s.rows one.consumer) m.served
    (λ one here.
    ap (λ n. not (one.consumer.cancelled && nat_eq n 0)) (sym (out-is m s one stands whole here))))

pub may_go : (m : Parts) (s : State) → Stands m s → IsWhole m → MayGo m s
may_go m s stands whole session empty =
    holds-keep m s (stays_one session) (λ (one : Consumer). not (is_of_session session one)) stands whole empty
    (AllByRecursion-from_in
    (λ (one : Served). stays_one session one ≡ not (is_of_session session one.consumer)) m.served (λ one here. refl))

pub consumers_change : (m : Parts) (s : State) → Stands m s → IsWhole m → ConsumersChange m s
consumers_change m s stands whole = record {
  change = may_change m s stands whole;
  finish = may_finish m s stands whole;
  go = may_go m s stands whole;
}
